-- The text by the judgement of the two cases, the first one first.
-- Assumes nothing.
use mathlib.Core.Path.{◌≡◌}
use mathlib.Core.Bool.{true, false}
use mathlib.Core.List.{List}
use Prim.Native.Nat.{ℕ}
use Rattle.cases.specs.Contents.{good_case}
use Rattle.comparing.specs.Differences.{differences}
use Rattle.comparing.specs.Comparison.{text, first_refused, second_refused, comparison}

module _ (a b : List ℕ) where
  pub first_bad : good_case a ≡ false → comparison a b ≡ first_refused
  unfolding comparison
  first_bad e = rw e

  pub second_bad : good_case a ≡ true → good_case b ≡ false → comparison a b ≡ second_refused
  unfolding comparison
  second_bad e f = rw (e, f)

  pub both_good : good_case a ≡ true → good_case b ≡ true → comparison a b ≡ text (differences a b)
  unfolding comparison
  both_good e f = rw (e, f)
