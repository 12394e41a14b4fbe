-- The lesser of two numbers, as std's `min` answers it.
-- Assumes nothing.
use Rattle.std.proofs.Common.{◌≡◌, ℕ, ◌≤◌, ◌⊎◌, Bool, true, false, cond, arith, inl, inr, nat_cmp}
use Rattle.std.specs.Ordering.{ord_min, is_lt}
use Rattle.std.proofs.lemmas.Grind.{common_steps}

pub record IsLeast (a b r : ℕ) : Type 0 where
  pub left : r ≤ a
  pub right : r ≤ b
  pub which : (r ≡ a) ⊎ (r ≡ b)

one_of : (t : Bool) (a b r : ℕ) → r ≡ cond t b a → (r ≡ a) ⊎ (r ≡ b)
one_of true a b r e = inr e
one_of false a b r e = inl e

pub least_of : (a b r : ℕ) → r ≡ ord_min nat_cmp a b → IsLeast a b r
least_of a b r e =
    record { left = grind (arith, common_steps); right = grind (arith, common_steps); which = one_of (is_lt (nat_cmp b a)) a b r e }
