-- Flags that we wrote, and flags of any byte.
-- Assumes nothing.
use mathlib.Core.Path.{◌≡◌, refl}
use mathlib.Core.Bool.{Bool, true, false}
use Prim.Native.Nat.{ℕ}
use borrow.Author.Tests.{eq-eqb, ne_eqb}
use Rattle.seqs.specs.Flag.{yes, bit}

-- a flag that we wrote reads as it was meant
pub yes_bit : (t : Bool) → yes (bit t) ≡ t
yes_bit true = refl
yes_bit false = refl

-- a flag of any byte, as we write it
pub bit_no : (x : ℕ) → x ≡ 0 → 0 ≡ bit (yes x)
bit_no x e = rw (eq-eqb x 0 e)

pub bit_yes : (x : ℕ) → (x ≡ 0 → ⊥) → 1 ≡ bit (yes x)
bit_yes x n = rw (ne_eqb x 0 n)
