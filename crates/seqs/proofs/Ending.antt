-- The padded message behind the blocks that a hash has worked: one block more, or two, over the block's size, the width of the length
-- field and its byte order.
-- Assumes nothing.
use mathlib.Core.Path.{◌≡◌, refl, sym, ◌∙◌, ap, ap₂}
use mathlib.Core.List.{List, [], ◌∷◌, ◌++◌, append_assoc}
use Prim.Native.Nat.{ℕ, zero, suc, ◌+◌, ◌-◌, ◌*◌, ◌/◌, ◌%◌, ◌≤◌, ◌<◌}
use native.Mathlib.Nat.{mul-add, mul-suc, mul-zero, mul-one, add-zero, sub-zero, mul-mod_right, add-mod-mod, mod-lt, div-add-mod, mod_self, mod-eq_of_lt, mul-div_right}
use native.Mathlib.Omega.{arith}
use borrow.Author.Tests.{ltb-true, ltb-false}
use lib.Dec.{ltb}
use lib.ListN.{length, take, drop, replicate, length-append, length-replicate, replicate-append-replicate}
use lib.Seq.{take_all, take_at, drop_at, drop-append-le, length-take-le}
use Rattle.seqs.specs.Blocks.{after}
use Rattle.seqs.specs.Words.{ByteOrder, in_bytes}
use Rattle.seqs.specs.Padding.{pad, padding, zeros}
use Rattle.seqs.specs.Taken.{left_of, sealed, Holds}
use Rattle.seqs.specs.Cases.{by_test}
use Rattle.seqs.proofs.Blocks.{after_append, after_from}
use Rattle.seqs.proofs.Words.{length-in_bytes}
use Rattle.seqs.proofs.Zeros.{take-zeros}
use Rattle.seqs.proofs.Taking.{split, room, length-left, rest_of}

-- 'as few zero bits as': z zero bytes that bring the whole to q blocks, fewer than a block, are those of the padding
pub zeros_are : (size width n z q : ℕ) → 0 < size → z < size → n + 1 + width + z ≡ size * q → zeros size width n ≡ z
zeros_are size width n zero q s h e =
    let a : (n + 1 + width) % size ≡ 0 = ap (λ (i : ℕ). i % size) (sym (add-zero (n + 1 + width)) ∙ e) ∙ mul-mod_right size q in
    ap (λ (i : ℕ). (size - i) % size) a ∙ ap (λ (i : ℕ). i % size) (sub-zero size) ∙ mod_self size
zeros_are size width n (suc z) zero s h e = absurd (omega (arith, mul-zero size))
zeros_are size width n (suc z) (suc q) s h e =
    let f : n + 1 + width ≡ size * q + (size - suc z) = omega (arith, mul-suc size q) in
    let a : (n + 1 + width) % size ≡ size - suc z = rest_of size s q (size - suc z) f (omega arith) in
    let b : size - (size - suc z) ≡ suc z = omega arith in
    ap (λ (i : ℕ). (size - i) % size) a ∙ ap (λ (i : ℕ). i % size) b ∙ mod-eq_of_lt h

-- 'to a multiple of the block': a padded message is whole blocks
pub whole : (size width : ℕ) (order : ByteOrder) (m : List ℕ) → 0 < size → length (pad size width order m) % size ≡ 0
unfolding padding
whole size width order m h =
    let n = length m + 1 + width in
    let q = n / size in
    let e : length (pad size width order m) ≡ n + zeros size width (length m) = simp (length-append, length-replicate, length-in_bytes) (omega arith) in
    let f : n + (size - n % size) ≡ size * suc q = omega (arith, mod-lt n h, div-add-mod n size, mul-suc size q) in
    ap (λ (i : ℕ). i % size) e ∙ add-mod-mod n (size - n % size) size ∙ ap (λ (i : ℕ). i % size) f ∙ mul-mod_right size (suc q)

-- a block is sealed zero by zero
pub sealed_more : (i : ℕ) (t : List ℕ) (at : ℕ) → at < i → sealed (i + 1) t at ≡ sealed i t at ++ (0 ∷ [])
sealed_more i t at h =
    let e : i + 1 - (at + 1) ≡ i - (at + 1) + 1 = omega arith in
    ap (λ (k : ℕ). take at t ++ (128 ∷ replicate k 0)) e
    ∙ ap (λ (l : List ℕ). take at t ++ (128 ∷ l)) (sym (replicate-append-replicate (i - (at + 1)) 1 0))
    ∙ sym (append_assoc (take at t) (128 ∷ replicate (i - (at + 1)) 0) (0 ∷ []))

pub length-sealed : (size : ℕ) (t : List ℕ) (at : ℕ) → at < size → size ≤ length t → length (sealed size t at) ≡ size
length-sealed size t at h g = simp (length-append, length-replicate) (omega (arith, length-take-le at t (omega arith)))

module _ {S : Type 0} (size : ℕ) (positive : 0 < size) (step : S → List ℕ → S) (initial : S) where
  -- what follows whole blocks depends on the hash value there and on the rest alone
  pub rest_only : (k j : ℕ) (m p : List ℕ) → size * k ≤ length m
      → after size step initial (k + j) (m ++ p) ≡ after size step (after size step initial k m) j (drop (size * k) m ++ p)
  rest_only k j m p h =
      after_from size step initial k j (m ++ p)
      ∙ ap₂ (λ (x : S) (l : List ℕ). after size step x j l) (after_append size step initial k m p h) (drop-append-le (size * k) m p h)

  pub one_block : (s : S) (b : List ℕ) → length b ≡ size → after size step s 1 b ≡ step s b
  unfolding after
  one_block s b e = ap (λ (i : ℕ). step s (take size (drop i b))) (mul-zero size) ∙ ap (step s) (take_all size b (omega arith))

  two_blocks : (s : S) (a b : List ℕ) → length a ≡ size → length b ≡ size → after size step s 2 (a ++ b) ≡ step (step s a) b
  unfolding after
  two_blocks s a b e f =
      ap₂ (λ (i j : ℕ). step (step s (take size (drop i (a ++ b)))) (take size (drop j (a ++ b)))) (mul-zero size) (mul-one size)
      ∙ ap₂ (λ (p q : List ℕ). step (step s p) q) (take_at a b size e) (ap (take size) (drop_at a b size e) ∙ take_all size b (omega arith))

  module _ {value : S} {t : List ℕ} {count : ℕ} (m : List ℕ) (h : Holds size step initial value t count m) (at : ℕ) (e : at ≡ length m % size) where
    -- what waits is what is left of m
    seals : sealed size t at ≡ left_of size m ++ (128 ∷ replicate (size - (at + 1)) 0)
    seals =
        ap (λ (l : List ℕ). l ++ (128 ∷ replicate (size - (at + 1)) 0)) (ap (take at) h.waits ∙ take_at (left_of size m) (replicate (size - length m % size) 0) at (length-left size positive m ∙ sym e))

    module _ (width : ℕ) (order : ByteOrder) (narrow : width < size) where
      l : List ℕ
      l = in_bytes order width (8 * length m)

      -- the padded message, when z zero bytes bring it to j blocks more than are worked
      ends : (z j : ℕ) → z < size → at + 1 + width + z ≡ size * j
          → after size step initial (length (pad size width order m) / size) (pad size width order m)
          ≡ after size step value j (left_of size m ++ ((128 ∷ replicate z 0) ++ l))
      unfolding padding l
      ends z j b s =
          let k = length m / size in
          let q : length m + 1 + width + z ≡ size * (k + j) = rw (mul-add size k j) (omega (arith, split size positive m)) in
          let y : zeros size width (length m) ≡ z = zeros_are size width (length m) z (k + j) positive b q in
          let p : List ℕ = (128 ∷ replicate z 0) ++ l in
          let f : pad size width order m ≡ m ++ p = ap (λ (i : ℕ). m ++ ((128 ∷ replicate i 0) ++ in_bytes order width (8 * length m))) y in
          let n : length (m ++ p) ≡ size * (k + j) = simp (length-append, length-replicate, length-in_bytes) (omega arith) in
          let w : length (pad size width order m) / size ≡ k + j = ap (λ (x : List ℕ). length x / size) f ∙ ap (λ (i : ℕ). i / size) n ∙ mul-div_right (k + j) positive in
          ap₂ (λ (i : ℕ) (x : List ℕ). after size step initial i x) w f
          ∙ rest_only k j m p (omega (arith, split size positive m))
          ∙ ap (λ (x : S). after size step x j (left_of size m ++ p)) (sym h.worked)

      -- the length goes into the same block
      pub finished_one : at + width < size
          → after size step initial (length (pad size width order m) / size) (pad size width order m)
          ≡ step value (take (size - width) (sealed size t at) ++ in_bytes order width (8 * length m))
      unfolding l
      finished_one g =
          let z = size - (at + 1 + width) in
          let one : at + 1 + width + z ≡ size * 1 = omega (arith, mul-one size) in
          let front : List ℕ = left_of size m ++ (128 ∷ replicate z 0) in
          let n : length front ≡ size - width = simp (length-append, length-replicate) (omega (arith, length-left size positive m)) in
          let w : size - (at + 1) ≡ z + width = omega arith in
          let s : sealed size t at ≡ front ++ replicate width 0 =
          seals
          ∙ ap (λ (i : ℕ). left_of size m ++ (128 ∷ replicate i 0)) w
          ∙ ap (λ (q : List ℕ). left_of size m ++ (128 ∷ q)) (sym (replicate-append-replicate z width 0))
          ∙ sym (append_assoc (left_of size m) (128 ∷ replicate z 0) (replicate width 0)) in
          let f : take (size - width) (sealed size t at) ≡ front = ap (take (size - width)) s ∙ take_at front (replicate width 0) (size - width) n in
          let k : length (front ++ l) ≡ size = length-append front l ∙ ap₂ (λ (i j : ℕ). i + j) n (length-in_bytes order width (8 * length m)) ∙ (omega arith) in
          ends z 1 (omega arith) one
          ∙ ap (after size step value 1) (sym (append_assoc (left_of size m) (128 ∷ replicate z 0) l))
          ∙ one_block value (front ++ l) k
          ∙ ap (λ (q : List ℕ). step value (q ++ l)) (sym f)

      -- the length goes into a block of its own
      pub finished_two : size ≤ at + width
          → after size step initial (length (pad size width order m) / size) (pad size width order m)
          ≡ step (step value (sealed size t at)) (take (size - width) (replicate size 0) ++ in_bytes order width (8 * length m))
      unfolding l
      finished_two g =
          let z = size - (at + 1) + (size - width) in
          let two : at + 1 + width + z ≡ size * 2 = omega (arith, room size positive m) in
          let first : List ℕ = left_of size m ++ (128 ∷ replicate (size - (at + 1)) 0) in
          let last : List ℕ = replicate (size - width) 0 ++ l in
          let n : length first ≡ size = simp (length-append, length-replicate) (omega (arith, length-left size positive m, room size positive m)) in
          let k : length last ≡ size = simp (length-append, length-replicate, length-in_bytes) (omega arith) in
          let p : left_of size m ++ ((128 ∷ replicate z 0) ++ l) ≡ first ++ last =
          ap (λ (q : List ℕ). left_of size m ++ ((128 ∷ q) ++ l)) (sym (replicate-append-replicate (size - (at + 1)) (size - width) 0))
          ∙ ap (λ (q : List ℕ). left_of size m ++ q) (append_assoc (128 ∷ replicate (size - (at + 1)) 0) (replicate (size - width) 0) l)
          ∙ sym (append_assoc (left_of size m) (128 ∷ replicate (size - (at + 1)) 0) last) in
          ends z 2 (omega (arith, room size positive m)) two
          ∙ ap (after size step value 2) p
          ∙ two_blocks value first last n k
          ∙ ap₂ (λ (x y : List ℕ). step (step value x) (y ++ l)) (sym seals) (sym (take-zeros (size - width) size (omega arith)))

  -- two messages that one hash holds end alike
  pub same_end : (width : ℕ) (order : ByteOrder) → width < size → {value : S} {t : List ℕ} {count : ℕ} {m n : List ℕ}
      → Holds size step initial value t count m → Holds size step initial value t count n
      → after size step initial (length (pad size width order m) / size) (pad size width order m)
      ≡ after size step initial (length (pad size width order n) / size) (pad size width order n)
  same_end width order narrow {value} {t} {count} {m} {n} g h =
      let e : length m ≡ length n = sym g.counted ∙ h.counted in
      let f : length m % size ≡ length n % size = ap (λ (i : ℕ). i % size) e in
      let at = length m % size in
      by_test (ltb (at + width) size)
      (λ w.
      let c : at + width < size = ltb-true (at + width) size w in
      finished_one m g at refl width order narrow c
      ∙ ap (λ (i : ℕ). step value (take (size - width) (sealed size t at) ++ in_bytes order width (8 * i))) e
      ∙ sym (finished_one n h at f width order narrow c))
      (λ w.
      let c : size ≤ at + width = ltb-false (at + width) size w in
      finished_two m g at refl width order narrow c
      ∙ ap (λ (i : ℕ). step (step value (sealed size t at)) (take (size - width) (replicate size 0) ++ in_bytes order width (8 * i))) e
      ∙ sym (finished_two n h at f width order narrow c))
