-- What a call's number tells of its tests.
-- Assumes nothing.
use mathlib.Core.Path.{◌≡◌, refl}
use mathlib.Core.Bool.{Bool, true, false, not, ◌&&◌, ◌||◌}
use mathlib.Core.List.{List, [], ◌∷◌, ◌++◌}
use Prim.Native.Nat.{ℕ, ◌≤◌}
use native.Mathlib.Omega.{arith}
use lib.Dec.{leb, eqb}
use borrow.Author.Tests.{leb-true, eqb-true, eqb-false, not-true}
use Rattle.seqs.specs.Cases.{and_left, and_right}
use Rattle.refusal.specs.First.{first_of, first_fault}
use Rattle.refusal.specs.Table.{placed}

-- every number of the list is one of 1 to 11: this is computed, whatever the tests are
abbrev pub refusing : List (ℕ × Bool) → Bool
refusing [] = true
refusing ((n, b) ∷ rest) = not (eqb n 0) && (leb n 11 && refusing rest)

-- no test holds
abbrev pub NoneHolds : List (ℕ × Bool) → Type 0
NoneHolds [] = Unit {0}
NoneHolds ((n, b) ∷ rest) = (b ≡ false) × NoneHolds rest

pub first_zero : (tests : List (ℕ × Bool)) → refusing tests ≡ true → first_of tests ≡ 0 → NoneHolds tests
unfolding first_of
first_zero [] t e = tt
first_zero ((n, true) ∷ rest) t e = absurd (eqb-false n 0 (not-true _ (and_left (not (eqb n 0)) _ t)) e)
first_zero ((n, false) ∷ rest) t e = (refl, first_zero rest (and_right (leb n 11) _ (and_right (not (eqb n 0)) _ t)) e)

pub first_within : (tests : List (ℕ × Bool)) → refusing tests ≡ true → first_of tests ≤ 11
unfolding first_of
first_within [] t = omega arith
first_within ((n, true) ∷ rest) t = leb-true n 11 (and_left _ (refusing rest) (and_right (not (eqb n 0)) _ t))
first_within ((n, false) ∷ rest) t = first_within rest (and_right (leb n 11) _ (and_right (not (eqb n 0)) _ t))

-- a test that does not hold is passed over
pub first_passed : (n : ℕ) (b : Bool) (rest : List (ℕ × Bool)) → b ≡ false → first_of ((n, b) ∷ rest) ≡ first_of rest
unfolding first_of
first_passed n b rest e = rw e

-- tests that refuse do so whatever comes behind them
pub first_front : (front rest : List (ℕ × Bool)) → (first_of front ≡ 0 → ⊥) → first_of (front ++ rest) ≡ first_of front
unfolding first_of
first_front [] rest z = absurd (z refl)
first_front ((n, true) ∷ front) rest z = refl
first_front ((n, false) ∷ front) rest z = first_front front rest z

-- tests of a message, without their places
abbrev pub numbers_of : List (ℕ × ℕ × Bool) → List (ℕ × Bool)
numbers_of [] = []
numbers_of ((n, p, b) ∷ rest) = (n, b) ∷ numbers_of rest

pub fault_number : (tests : List (ℕ × ℕ × Bool)) → (first_fault tests).number ≡ first_of (numbers_of tests)
unfolding first_of first_fault
fault_number [] = refl
fault_number ((n, p, true) ∷ rest) = refl
fault_number ((n, p, false) ∷ rest) = fault_number rest

pub fault_front : (front rest : List (ℕ × ℕ × Bool)) → ((first_fault front).number ≡ 0 → ⊥) → first_fault (front ++ rest) ≡ first_fault front
unfolding first_fault
fault_front [] rest z = absurd (z refl)
fault_front ((n, p, true) ∷ front) rest z = refl
fault_front ((n, p, false) ∷ front) rest z = fault_front front rest z

-- no place stands with a number that goes with none: this is computed, whatever the tests are
abbrev pub bare : List (ℕ × ℕ × Bool) → Bool
bare [] = true
bare ((n, p, b) ∷ rest) = (placed n || eqb p 0) && bare rest

pub fault_bare : (tests : List (ℕ × ℕ × Bool)) → bare tests ≡ true → placed (first_fault tests).number ≡ false → (first_fault tests).place ≡ 0
unfolding first_fault
fault_bare [] t z = refl
fault_bare ((n, p, true) ∷ rest) t z = eqb-true p 0 (rw z at (and_left (placed n || eqb p 0) (bare rest) t))
fault_bare ((n, p, false) ∷ rest) t z = fault_bare rest (and_right (placed n || eqb p 0) _ t) z

-- no number of the list goes with a place: this too is computed
abbrev pub unplaced : List (ℕ × Bool) → Bool
unplaced [] = true
unplaced ((n, b) ∷ rest) = not (placed n) && unplaced rest

pub first_unplaced : (tests : List (ℕ × Bool)) → unplaced tests ≡ true → placed (first_of tests) ≡ false
unfolding first_of
first_unplaced [] t = refl
first_unplaced ((n, true) ∷ rest) t = not-true _ (and_left (not (placed n)) _ t)
first_unplaced ((n, false) ∷ rest) t = first_unplaced rest (and_right (not (placed n)) _ t)
