-- Fields and vectors at a place of a message: what a reader with a place in hand learns of the layout, which takes lists apart.
-- Assumes nothing.
use mathlib.Core.Path.{◌≡◌, refl, sym, ◌∙◌, ap}
use mathlib.Core.Bool.{Bool, true, false}
use mathlib.Core.List.{List, [], ◌∷◌}
use Prim.Native.Nat.{ℕ, ◌+◌, ◌-◌, ◌≤◌, ◌<◌}
use native.Mathlib.Nat.{add-zero, add_assoc}
use native.Mathlib.Omega.{arith}
use lib.Dec.{leb}
use lib.ListN.{length, take, drop, length-drop}
use lib.Seq.{drop-drop, get_or-drop, length-take-le}
use borrow.Author.Tests.{le-leb, lt-leb, leb-true, leb-false, lt-ltb, le-ltb}
use Rattle.seqs.specs.Pick.{pick}
use Rattle.message.specs.Numbers.{byte_at, pair_at}
use Rattle.hello.specs.Layout.{Parse, malformed, Left, from, past, end_of, big, field, counted, vector}
use Rattle.hello.specs.Places.{part}
use Rattle.hello.specs.Cuts.{width_of, BrokenField, Cuts}
use Rattle.std.specs.Prelude.{Ok}
use Rattle.refusal.specs.declared.Reason.TheVariants as reason

-- the first bytes of a list as a number
pub big_one : (l : List ℕ) → 1 ≤ length l → big (take 1 l) ≡ byte_at l 0
unfolding big byte_at
big_one [] h = absurd (omega arith)
big_one (a ∷ l) h = omega arith

pub big_two : (l : List ℕ) → 2 ≤ length l → big (take 2 l) ≡ pair_at l 0
unfolding big byte_at pair_at
big_two [] h = absurd (omega arith)
big_two (a ∷ []) h = absurd (omega arith)
big_two (a ∷ b ∷ l) h = omega arith

pub byte_drop : (m : List ℕ) (i j : ℕ) → byte_at (drop i m) j ≡ byte_at m (i + j)
unfolding byte_at
byte_drop m i j = get_or-drop i m j 0

pub pair_drop : (m : List ℕ) (i j : ℕ) → pair_at (drop i m) j ≡ pair_at m (i + j)
unfolding pair_at byte_at
pair_drop m i j = simp (get_or-drop, add_assoc)

-- what holds a field of a message ends where the message ends
pub end_from : (m : List ℕ) (i : ℕ) → i ≤ length m → end_of (from m i) ≡ length m
end_from m i h = rw length-drop (omega arith)

module _ {A : Type 0} (then : List ℕ → Left → Parse A) where
  pub field_yes : (n : ℕ) (l : Left) → n ≤ length l.bytes → field n l then ≡ then (take n l.bytes) (past n l)
  unfolding field
  field_yes n l h = rw (le-leb n (length l.bytes) h)

  pub field_no : (n : ℕ) (l : Left) → length l.bytes < n → field n l then ≡ malformed (end_of l)
  unfolding field
  field_no n l h = rw (lt-leb n (length l.bytes) h)

  pub field_cut : (n : ℕ) (m : List ℕ) (at : ℕ) → at ≤ length m → length m - at < n → field n (from m at) then ≡ malformed (length m)
  field_cut n m at h k = field_no n (from m at) (rw length-drop k) ∙ ap malformed (end_from m at h)

module _ {A : Type 0} (then : List ℕ → Left → Parse A) (w : ℕ) (m : List ℕ) (at : ℕ) where
  pub counted_short : at ≤ length m → length m - at < w → counted w (from m at) then ≡ malformed (length m)
  unfolding counted
  counted_short h k = field_cut _ w m at h k

  module _ (n : ℕ) (e : n ≡ big (take w (drop at m))) (h : at + w ≤ length m) where
    first : (test : ℕ → ℕ → List ℕ → Left → Parse A) → field w (from m at) (λ d r. test (big d) (length r.bytes) r.bytes r) ≡ test n (length m - (at + w)) (drop (at + w) m) (from m (at + w))
    first test = field_yes _ w (from m at) (rw length-drop (omega arith)) ∙ (rw (← e, drop-drop, length-drop))

    pub counted_yes : at + w + n ≤ length m → counted w (from m at) then ≡ then (take n (drop (at + w) m)) (from m (at + w + n))
    unfolding counted
    counted_yes r =
        first (λ k size b l. pick (leb k size) (then (take k b) (past k l)) (malformed at))
        ∙ (rw (le-leb n (length m - (at + w)) (omega arith), drop-drop))

    pub counted_no : length m < at + w + n → counted w (from m at) then ≡ malformed at
    unfolding counted
    counted_no r =
        first (λ k size b l. pick (leb k size) (then (take k b) (past k l)) (malformed at))
        ∙ (rw (lt-leb n (length m - (at + w)) (omega arith)))

module _ {A : Type 0} (then : List ℕ → Left → Parse A) (w low high : ℕ) (m : List ℕ) (at : ℕ) where
  pub vector_short : at ≤ length m → length m - at < w → vector w low high (from m at) then ≡ malformed (length m)
  unfolding vector
  vector_short h k = counted_short _ w m at h k

  module _ (n : ℕ) (e : n ≡ big (take w (drop at m))) (h : at + w ≤ length m) where
    taken : at + w + n ≤ length m → length (take n (drop (at + w) m)) ≡ n
    taken r = length-take-le n (drop (at + w) m) (rw length-drop (omega arith))

    pub vector_yes : low ≤ n → n ≤ high → at + w + n ≤ length m
        → vector w low high (from m at) then ≡ then (take n (drop (at + w) m)) (from m (at + w + n))
    unfolding vector
    vector_yes lo hi r = counted_yes _ w m at n e h r ∙ (rw (taken r, le-leb low n lo, le-leb n high hi))

    pub vector_no : ((low ≤ n) × (n ≤ high) × (at + w + n ≤ length m) → ⊥) → vector w low high (from m at) then ≡ malformed at
    unfolding vector
    vector_no never = go (leb (at + w + n) (length m)) (leb low n) (leb n high) refl refl refl
      where
        go : (a b c : Bool) → leb (at + w + n) (length m) ≡ a → leb low n ≡ b → leb n high ≡ c → vector w low high (from m at) then ≡ malformed at
        go false b c p q r = counted_no _ w m at n e h (leb-false _ _ p)
        go true false c p q r = counted_yes _ w m at n e h (leb-true _ _ p) ∙ (rw (taken (leb-true _ _ p), q))
        go true true false p q r = counted_yes _ w m at n e h (leb-true _ _ p) ∙ (rw (taken (leb-true _ _ p), q, r))
        go true true true p q r = absurd (never (leb-true low n q, leb-true n high r, leb-true _ _ p))

-- a vector, by the number n that the reader found in its length
module _ (w low high : ℕ) (m : List ℕ) (at : ℕ) where
  pub cuts_short : at ≤ length m → length m - at < w → BrokenField (vector w low high (from m at)) (reason.Malformed (length m))
  cuts_short h k = (length m, λ then. vector_short then w low high m at h k, refl)

  module _ (n : ℕ) (e : n ≡ big (take w (drop at m))) (h : at + w ≤ length m) where
    -- the fault stands at its own place
    pub cuts_no : (own : ℕ) → own ≡ at → ((low ≤ n) × (n ≤ high) × (at + w + n ≤ length m) → ⊥) → BrokenField (vector w low high (from m at)) (reason.Malformed own)
    cuts_no own o never = (at, λ then. vector_no then w low high m at n e h never, ap reason.Malformed o)

    pub cuts_yes : low ≤ n → n ≤ high → at + w + n ≤ length m → Cuts m (at + w) (vector w low high (from m at)) (Ok (part (at + w) n))
    cuts_yes lo hi r = (refl, r, λ then. vector_yes then w low high m at n e h lo hi r)

-- the number that states a length of one byte, and of two
pub one_at : (m : List ℕ) (at : ℕ) → at + 1 ≤ length m → byte_at m at ≡ big (take 1 (drop at m))
one_at m at h = sym (big_one (drop at m) (rw length-drop (omega arith)) ∙ byte_drop m at 0 ∙ ap (byte_at m) (add-zero at))

pub two_at : (m : List ℕ) (at : ℕ) → at + 2 ≤ length m → pair_at m at ≡ big (take 2 (drop at m))
two_at m at h = sym (big_two (drop at m) (rw length-drop (omega arith)) ∙ pair_drop m at 0 ∙ ap (pair_at m) (add-zero at))

-- what a reader took of the length: in how many bytes it stands, and the number
pub record Stated (m : List ℕ) (at high w n : ℕ) : Type 0 where
  pub width : w ≡ width_of high
  pub number : at + w ≤ length m → n ≡ big (take w (drop at m))

pub stated_one : (m : List ℕ) (at high n : ℕ) → high < 256 → n ≡ byte_at m at → Stated m at high 1 n
stated_one m at high n h e = record { width = rw (lt-ltb high 256 h); number = λ k. e ∙ one_at m at k }

pub stated_two : (m : List ℕ) (at high n : ℕ) → 256 ≤ high → n ≡ pair_at m at → Stated m at high 2 n
stated_two m at high n h e = record { width = rw (le-ltb high 256 h); number = λ k. e ∙ two_at m at k }
