-- Parts of a list of zeros.
-- Assumes nothing.
use mathlib.Core.Path.{◌≡◌, refl, sym, ◌∙◌, ap}
use mathlib.Core.List.{List, ◌∷◌}
use Prim.Native.Nat.{ℕ, zero, suc, ◌-◌, ◌≤◌}
use native.Mathlib.Nat.{zero-sub, sub-zero, suc-sub-suc}
use native.Mathlib.Omega.{arith}
use lib.ListN.{take, drop, replicate}

pub drop-zeros : (n k : ℕ) → drop {A = ℕ} n (replicate k 0) ≡ replicate (k - n) 0
drop-zeros zero k = ap (λ (i : ℕ). replicate i 0) (sym (sub-zero k))
drop-zeros (suc n) zero = ap (λ (i : ℕ). replicate i 0) (sym (zero-sub (suc n)))
drop-zeros (suc n) (suc k) = drop-zeros n k ∙ ap (λ (i : ℕ). replicate i 0) (sym (suc-sub-suc k n))

pub take-zeros : (n k : ℕ) → n ≤ k → take {A = ℕ} n (replicate k 0) ≡ replicate n 0
take-zeros zero k h = refl
take-zeros (suc n) zero h = absurd (omega arith)
take-zeros (suc n) (suc k) h = ap (λ (l : List ℕ). 0 ∷ l) (take-zeros n k (omega arith))
