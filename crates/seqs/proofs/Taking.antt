-- More bytes: what waits and the new bytes are one list, whose whole blocks are worked and whose rest waits.
-- Assumes nothing.
use mathlib.Core.Path.{◌≡◌, refl, sym, ◌∙◌, ap, ap₂}
use mathlib.Core.List.{List, [], ◌++◌, append-nil, append_assoc}
use Prim.Native.Nat.{ℕ, suc, ◌+◌, ◌-◌, ◌*◌, ◌/◌, ◌%◌, ◌≤◌, ◌<◌}
use native.Mathlib.Nat.{mul-add, add-zero, div-add-mod, mod-lt, mul-add-div, div-eq_of_lt, mul-add-mod_self_left, mod-eq_of_lt, mul-zero, mul-one, sub-zero, zero-div, zero-mod}
use native.Mathlib.Numerals.{one-add}
use native.Mathlib.Omega.{arith}
use lib.ListN.{length, take, drop, replicate, length-append, length-drop, drop_of_length-le}
use lib.Seq.{length-take-le, drop-append-le, drop-drop, take-append-add, drop-append-add, paste, take_all, take_at, take-length}
use Rattle.seqs.specs.Blocks.{after}
use Rattle.seqs.specs.Taken.{whole_blocks, completed, left_of, waiting, Holds, CompletedAreSteps}
use Rattle.seqs.proofs.Blocks.{after_append, after_from}
use Rattle.seqs.proofs.Zeros.{drop-zeros}

-- a number of blocks and a rest
module _ (size : ℕ) (positive : 0 < size) {n : ℕ} (k r : ℕ) (e : n ≡ size * k + r) (h : r < size) where
  pub blocks_of : n / size ≡ k
  blocks_of = ap (λ (i : ℕ). i / size) e ∙ mul-add-div positive k r ∙ ap (λ (i : ℕ). k + i) (div-eq_of_lt h) ∙ add-zero k

  pub rest_of : n % size ≡ r
  rest_of = ap (λ (i : ℕ). i % size) e ∙ mul-add-mod_self_left size k r ∙ mod-eq_of_lt h

module _ (size : ℕ) (positive : 0 < size) (m : List ℕ) where
  pub split : length m ≡ size * (length m / size) + length m % size
  split = sym (div-add-mod (length m) size)

  pub room : length m % size < size
  room = mod-lt (length m) positive

  pub length-left : length (left_of size m) ≡ length m % size
  length-left = length-drop (size * (length m / size)) m ∙ (omega (arith, split))

  pub take-waiting : take (length m % size) (waiting size m) ≡ left_of size m
  take-waiting = take_at (left_of size m) (replicate (size - length m % size) 0) (length m % size) length-left

  -- nothing waits
  pub none_waits : length m % size ≡ 0 → waiting size m ≡ replicate size 0
  none_waits e =
      ap₂ (λ (l : List ℕ) (i : ℕ). l ++ replicate (size - i) 0) (drop_of_length-le m {i = size * (length m / size)} (omega (arith, split))) e
      ∙ ap (λ (i : ℕ). replicate i 0) (sub-zero size)

  module _ (b : List ℕ) where
    -- b completes the blocks of what waits and b together
    whole_behind : whole_blocks size (m ++ b) ≡ whole_blocks size m + (length m % size + length b) / size
    whole_behind =
        let l : length (m ++ b) ≡ size * (length m / size) + (length m % size + length b) = simp length-append (omega (arith, split)) in
        ap (λ (i : ℕ). i / size) l ∙ mul-add-div positive (length m / size) (length m % size + length b)

    pub completed_blocks : completed size m b ≡ (length m % size + length b) / size
    completed_blocks = omega (arith, whole_behind)

-- blocks that are completed one after the other
pub completed_append : (size : ℕ) (positive : 0 < size) (m a b : List ℕ) → completed size m a + completed size (m ++ a) b ≡ completed size m (a ++ b)
completed_append size positive m a b =
    let e : whole_blocks size (m ++ (a ++ b)) ≡ whole_blocks size ((m ++ a) ++ b) = ap (whole_blocks size) (sym (append_assoc m a b)) in
    omega (arith, e, whole_behind size positive m a, whole_behind size positive (m ++ a) b)

module _ {S : Type 0} (size : ℕ) (positive : 0 < size) (step : S → List ℕ → S) (initial : S) where
  -- a hash is one value for one message
  pub one_value : {v w : S} {t u : List ℕ} {i j : ℕ} {m : List ℕ} → Holds size step initial v t i m → Holds size step initial w u j m
      → (v ≡ w) × (t ≡ u) × (i ≡ j)
  one_value g h = (g.worked ∙ sym h.worked, g.waits ∙ sym h.waits, g.counted ∙ sym h.counted)

  pub holds_none : Holds size step initial initial (replicate size 0) 0 []
  unfolding after
  holds_none =
      record {
        worked = ap (λ (i : ℕ). after size step initial i []) (sym (zero-div size));
        waits = sym (none_waits size positive [] (zero-mod size));
        counted = refl;
      }

  module _ {value : S} {t : List ℕ} {count : ℕ} (m b : List ℕ) (h : Holds size step initial value t count m) (at j left : ℕ) (e : at ≡ length m % size) where
    -- what waits, with the new bytes behind it, is the message from its last whole block on
    behind : take at t ++ b ≡ drop (size * (length m / size)) (m ++ b)
    behind =
        let d : size * (length m / size) ≤ length m = omega (arith, split size positive m) in
        ap (λ (l : List ℕ). l ++ b) (ap₂ take e h.waits ∙ take-waiting size positive m) ∙ sym (drop-append-le (size * (length m / size)) m b d)

    pub holds_more : {next : S} {tail : List ℕ} {sum : ℕ} → sum ≡ count + length b → at + length b ≡ size * j + left → left < size
        → next ≡ after size step value j (take at t ++ b)
        → tail ≡ drop (size * j) (take at t ++ b) ++ replicate (size - left) 0
        → Holds size step initial next tail sum (m ++ b)
    holds_more s n r p q =
        let k = length m / size in
        let d : size * k ≤ length m = omega (arith, split size positive m) in
        let l : length (m ++ b) ≡ size * (k + j) + left = rw (mul-add size k j) (simp length-append (omega (arith, split size positive m))) in
        let u : length (m ++ b) / size ≡ k + j = blocks_of size positive (k + j) left l r in
        let w : length (m ++ b) % size ≡ left = rest_of size positive (k + j) left l r in
        record {
          worked =
              p
              ∙ ap₂ (λ (x : S) (y : List ℕ). after size step x j y) (h.worked ∙ sym (after_append size step initial k m b d)) behind
              ∙ sym (after_from size step initial k j (m ++ b))
              ∙ ap (λ (i : ℕ). after size step initial i (m ++ b)) (sym u);
          waits =
              q
              ∙ ap₂ (λ (x : List ℕ) (i : ℕ). x ++ replicate (size - i) 0)
              (ap (drop (size * j)) behind ∙ drop-drop (size * j) (size * k) (m ++ b) ∙ ap (λ (i : ℕ). drop i (m ++ b)) (sym (mul-add size k j) ∙ ap (λ (i : ℕ). size * i) (sym u)))
              (sym w);
          counted = s ∙ ap (λ (i : ℕ). i + length b) h.counted ∙ sym (length-append m b);
        }

  -- a block that is completed is a step more
  pub completed_steps : CompletedAreSteps size step initial
  completed_steps m b =
      let k = whole_blocks size m in
      let j = completed size m b in
      let d : size * k ≤ length m = omega (arith, split size positive m) in
      let e : whole_blocks size (m ++ b) ≡ k + j = omega (arith, whole_behind size positive m b) in
      ap (λ (i : ℕ). after size step initial i (m ++ b)) e
      ∙ after_from size step initial k j (m ++ b)
      ∙ ap (λ (x : S). after size step x j (drop (size * k) (m ++ b))) (after_append size step initial k m b d)

  module _ {value : S} {t : List ℕ} {count : ℕ} (m b : List ℕ) (h : Holds size step initial value t count m) where
    -- by the count that the hash has
    pub counts_completed : {worked : ℕ} → worked ≡ (count % size + length b) / size → worked ≡ completed size m b
    counts_completed e = e ∙ ap (λ (i : ℕ). (i % size + length b) / size) h.counted ∙ sym (completed_blocks size positive m b)

    pub steps_between : {next : S} {tail : List ℕ} {sum worked : ℕ} → Holds size step initial next tail sum (m ++ b) → worked ≡ completed size m b
        → next ≡ after size step value worked (drop (size * whole_blocks size m) (m ++ b))
    steps_between g e =
        g.worked
        ∙ completed_steps m b
        ∙ ap₂ (λ (v : S) (n : ℕ). after size step v n (drop (size * whole_blocks size m) (m ++ b))) (sym h.worked) (sym e)

    -- for every hash and more bytes there is one that holds them behind whatever was taken before
    pub holds_further : Holds size step initial
        (after size step value ((count % size + length b) / size) (take (count % size) t ++ b))
        (drop (size * ((count % size + length b) / size)) (take (count % size) t ++ b) ++ replicate (size - (count % size + length b) % size) 0)
        (count + length b)
        (m ++ b)
    holds_further =
        let at = count % size in
        let sum = at + length b in
        holds_more m b h at (sum / size) (sum % size) (ap (λ (i : ℕ). i % size) h.counted) refl
        (sym (div-add-mod sum size))
        (mod-lt sum positive)
        refl
        refl

  -- the tail is filled up and is the first block; the others lie in the new bytes
  pub first_block : (s first next : S) (t b : List ℕ) (at j : ℕ) → length t ≡ size → at < size → size ≤ at + length b
      → first ≡ step s (take size (paste t at b (size - at)))
      → next ≡ after size step first j (drop (size - at) b)
      → next ≡ after size step s (suc j) (take at t ++ b)
  unfolding after
  first_block s first next t b at j l h g p q =
      let n : length (take at t) ≡ at = length-take-le at t (omega arith) in
      let k : size ≡ length (take at t) + (size - at) = omega arith in
      let z : drop (at + (size - at)) t ≡ [] = drop_of_length-le t {i = at + (size - at)} (omega arith) in
      let w : paste t at b (size - at) ≡ take at t ++ take (size - at) b = rw (z, append-nil) in
      let u : take size (take at t ++ b) ≡ take at t ++ take (size - at) b = ap (λ (i : ℕ). take i (take at t ++ b)) k ∙ take-append-add (take at t) b (size - at) in
      let v : drop size (take at t ++ b) ≡ drop (size - at) b = ap (λ (i : ℕ). drop i (take at t ++ b)) k ∙ drop-append-add (take at t) b (size - at) in
      let y : length (take at t ++ take (size - at) b) ≤ size = simp length-append (omega (arith, length-take-le (size - at) b (omega arith))) in
      let f : first ≡ after size step s 1 (take at t ++ b) =
      p
      ∙ ap (step s) (ap (take size) w ∙ take_all size _ y ∙ sym u)
      ∙ ap (λ (i : ℕ). step s (take size (drop i (take at t ++ b)))) (sym (mul-zero size)) in
      q
      ∙ ap₂ (λ (x : S) (r : List ℕ). after size step x j r) f (sym v ∙ ap (λ (i : ℕ). drop i (take at t ++ b)) (sym (mul-one size)))
      ∙ sym (after_from size step s 1 j (take at t ++ b))
      ∙ ap (λ (i : ℕ). after size step s i (take at t ++ b)) (one-add j)

-- the tail, when no block is full
pub short_tail : (size : ℕ) (positive : 0 < size) (m b : List ℕ) {t : List ℕ} (at : ℕ) → t ≡ waiting size m → at ≡ length m % size → at + length b < size
    → paste t at b (length b) ≡ (take at t ++ b) ++ replicate (size - (at + length b)) 0
short_tail size positive m b {t} at p e h =
    let z : List ℕ = replicate (size - length m % size) 0 in
    let n : at + length b ≡ length (left_of size m) + length b = omega (arith, length-left size positive m) in
    let k : size - length m % size - length b ≡ size - (at + length b) = omega arith in
    let d : drop (at + length b) t ≡ replicate (size - (at + length b)) 0 =
    ap₂ drop n p
    ∙ drop-append-add (left_of size m) z (length b)
    ∙ drop-zeros (length b) (size - length m % size)
    ∙ ap (λ (i : ℕ). replicate i 0) k in
    ap₂ (λ (x y : List ℕ). (take at t ++ x) ++ y) (take-length b) d

-- and when the bytes that are left over are laid into an empty one
pub left_over : (size : ℕ) (p b : List ℕ) (j left : ℕ) → length p + length b ≡ size * j + left → left ≤ length b
    → paste (replicate size 0) 0 (drop (length b - left) b) left ≡ drop (size * j) (p ++ b) ++ replicate (size - left) 0
left_over size p b j left e w =
    let l : length (drop (length b - left) b) ≡ left = simp length-drop (omega arith) in
    let k : size * j ≡ length p + (length b - left) = omega arith in
    let z : 0 + left ≡ left = omega arith in
    ap₂ (λ (x y : List ℕ). x ++ y)
    (take_all left (drop (length b - left) b) (omega arith) ∙ sym (ap (λ (i : ℕ). drop i (p ++ b)) k ∙ drop-append-add p b (length b - left)))
    (ap (λ (i : ℕ). drop i (replicate size 0)) z ∙ drop-zeros left size)
