-- How far two lists begin alike: the pairs of both that are equal, from the front.
-- Assumes nothing.
use Rattle.std.proofs.Common.{◌≡◌, ◌==◌, ◌≤◌, List, ℕ, [], ◌∷◌, length, refl, arith}
use Rattle.std.specs.List.{prefix_len, zip}
use lib.Dec.{eqb}
use Rattle.seqs.specs.Cases.{by_test}
use Rattle.comparing.specs.Differences.{common}

pub common_pairs : (xs ys : List ℕ) → common xs ys ≡ prefix_len (λ p. p.0 == p.1) (zip xs ys)
unfolding common
common_pairs [] ys = refl
common_pairs (x ∷ xs) [] = refl
common_pairs (x ∷ xs) (y ∷ ys) = by_test (eqb x y) (λ t. rw t (omega (arith, common_pairs xs ys))) (λ t. rw t)

pub common_most : (xs ys : List ℕ) → common xs ys ≤ length xs
unfolding common
common_most [] ys = omega arith
common_most (x ∷ xs) [] = omega arith
common_most (x ∷ xs) (y ∷ ys) = by_test (eqb x y) (λ t. rw t (omega (arith, common_most xs ys))) (λ t. rw t (omega arith))
