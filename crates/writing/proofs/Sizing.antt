-- How many bytes a hello has, and which lengths are outside their bounds: each way out of the code that counts them.
-- Assumes nothing.
use mathlib.Core.Path.{◌≡◌, sym}
use mathlib.Core.Bool.{Bool, true, false, not, ◌||◌}
use mathlib.Core.List.{List, [], ◌∷◌}
use Prim.Native.Nat.{ℕ, ◌+◌, ◌*◌, ◌%◌, ◌≤◌, ◌<◌}
use native.Mathlib.Nat.{add-zero}
use native.Mathlib.Omega.{arith}
use lib.Dec.{leb, ltb, eqb}
use borrow.Author.Tests.{lt-ltb, le-ltb, eq-eqb, ne_eqb, leb-true, leb-false, ltb-false, eqb-true, not-false}
use Rattle.std.specs.Prelude.{Result, Ok, Err}
use Rattle.seqs.specs.Cases.{by_test, or_left, or_right}
use Rattle.refusal.specs.declared.reason.Reason.{Reason}
use Rattle.refusal.specs.declared.reason.Reason.TheVariants as reason
use Rattle.writing.specs.Steps.{block_size, size_or, list_outside, opens_outside, lists_outside}

-- tests one after the other of which none holds
abbrev pub any_of : Bool → List Bool → Bool
any_of a [] = a
any_of a (t ∷ ts) = any_of (a || t) ts

abbrev pub None : List Bool → Type 0
None [] = Unit {0}
None (t ∷ ts) = (t ≡ false) × None ts

pub none_of : (a : Bool) (ts : List Bool) → any_of a ts ≡ false → (a ≡ false) × None ts
none_of a [] h = (h, tt)
none_of a (t ∷ ts) h = let r = none_of (a || t) ts h in (or_left a t r.0, (or_right a t r.0, r.1))

not_leb : (a b : ℕ) → not (leb a b) ≡ ltb b a
not_leb a b =
    by_test (leb a b)
    (λ p. rw p (sym (le-ltb b a (leb-true a b p))))
    (λ p. rw p (sym (lt-ltb b a (leb-false a b p))))

module _ (r i : ℕ) where
  pub opens_random : (r ≡ 32 → ⊥) → true ≡ opens_outside r i
  unfolding opens_outside
  opens_random h = simp (ne_eqb r 32 h)

  pub opens_identifier : r ≡ 32 → not (leb i 32) ≡ opens_outside r i
  unfolding opens_outside
  opens_identifier h = simp (eq-eqb r 32 h) (not_leb i 32)

  pub opens_bound : opens_outside r i ≡ false → (r ≡ 32) × (i ≤ 32)
  unfolding opens_outside
  opens_bound h =
      let n = none_of (not (eqb r 32)) (ltb 32 i ∷ []) h in
      (eqb-true r 32 (not-false _ n.0), ltb-false 32 i n.1.0)

module _ (s m : ℕ) where
  pub offers_few : s < 2 → true ≡ lists_outside s m
  unfolding lists_outside
  offers_few h = simp (lt-ltb s 2 h)

  pub offers_many : (2 ≤ s) × (65534 < s) → true ≡ lists_outside s m
  unfolding lists_outside
  offers_many = λ (h, k). simp (le-ltb s 2 h, lt-ltb 65534 s k)

  pub offers_odd : (2 ≤ s) × (s ≤ 65534) × (s % 2 ≡ 0 → ⊥) → true ≡ lists_outside s m
  unfolding lists_outside
  offers_odd = λ (h, k, l). simp (le-ltb s 2 h, le-ltb 65534 s k, ne_eqb (s % 2) 0 l)

  pub offers_no_method : (2 ≤ s) × (s ≤ 65534) × (s % 2 ≡ 0) × (m < 1) → true ≡ lists_outside s m
  unfolding lists_outside
  offers_no_method = λ (h, k, l, n). simp (le-ltb s 2 h, le-ltb 65534 s k, eq-eqb (s % 2) 0 l, lt-ltb m 1 n)

  pub offers_methods : (2 ≤ s) × (s ≤ 65534) × (s % 2 ≡ 0) × (1 ≤ m) → not (leb m 255) ≡ lists_outside s m
  unfolding lists_outside
  offers_methods = λ (h, k, l, n). simp (le-ltb s 2 h, le-ltb 65534 s k, eq-eqb (s % 2) 0 l, le-ltb m 1 n) (not_leb m 255)

  pub offers_bound : lists_outside s m ≡ false → (s ≤ 65534) × (m ≤ 255)
  unfolding lists_outside
  offers_bound h =
      let n = none_of (ltb s 2) (ltb 65534 s ∷ not (eqb (s % 2) 0) ∷ ltb m 1 ∷ ltb 255 m ∷ []) h in
      (ltb-false 65534 s n.1.0, ltb-false 255 m n.1.1.1.1.0)

-- a size, and none
pub within_not : (n : ℕ) → 16388 < n → Err reason.Length ≡ size_or (ltb 16388 n) n
within_not n h = rw (lt-ltb 16388 n h)

pub within_yes : (n : ℕ) → n ≤ 16388 → Ok n ≡ size_or (ltb 16388 n) n
within_yes n h = rw (le-ltb 16388 n h)

-- the sum as the code makes it
pub sum_right : (front n bytes : ℕ) → front + 2 + 4 * n + bytes ≡ front + (2 + 4 * n + bytes)
sum_right front n bytes = omega arith

-- front bytes before the block, which has n extensions with so many bytes of data
module _ (front n bytes : ℕ) (block : Bool) where
  abbrev size : Result ℕ Reason
  size = size_or (list_outside front block n bytes) (front + block_size block n bytes)

  pub size_unblocked : block ≡ false → (n ≡ 0 → ⊥) → Err reason.Length ≡ size
  unfolding list_outside
  size_unblocked b h = rw (b, ne_eqb n 0 h)

  pub size_bare : {r : Result ℕ Reason} → block ≡ false → n ≡ 0 → r ≡ size_or (ltb 16388 front) front → r ≡ size
  unfolding list_outside
  size_bare b h d = rw (b, eq-eqb n 0 h, add-zero) d

  pub size_block : {r : Result ℕ Reason} → block ≡ true → r ≡ size_or (ltb 16388 (front + (2 + 4 * n + bytes))) (front + (2 + 4 * n + bytes)) → r ≡ size
  unfolding list_outside
  size_block b d = rw b d

  pub size_long : block ≡ true → 16388 < front + (2 + 4 * n + bytes) → Err reason.Length ≡ size
  size_long b h = size_block b (within_not (front + (2 + 4 * n + bytes)) h)

-- tests one after the other: the first that holds decides
pub first_size : (a b : Bool) (n : ℕ) → a ≡ true → Err reason.Length ≡ size_or (a || b) n
first_size a b n p = rw p

pub second_size : (a b : Bool) (n : ℕ) {r : Result ℕ Reason} → a ≡ false → r ≡ size_or b n → r ≡ size_or (a || b) n
second_size a b n p e = rw p e
