-- By the two tests.
-- Assumes nothing.
use Rattle.std.proofs.Common.{refl, arith, inl, inr}
use Rattle.comparing.proofs.Types.{lowest_stays, lowest_falls}
use Rattle.comparing.proofs.extensions.lower.Goals as goal

pub returns-then-kind-low : goal.returns-then-kind-low
returns-then-kind-low c = λ m es l h. lowest_stays m es _ _ _ l (inl (omega arith))

pub returns-in_default : goal.returns-in_default
returns-in_default c = rw c.in_default.is (λ m es l h. lowest_falls m es _ _ _ l _ refl refl h (omega arith) (omega arith))

pub returns-then-best-kind : goal.returns-then-best-kind
returns-then-best-kind c = rw c.in-Some.is (λ m es l h. lowest_stays m es _ _ _ l (inr (omega arith)))

pub returns : goal.returns
returns c = rw c.in-Some.is (λ m es l h. lowest_falls m es _ _ _ l _ refl refl h (omega arith) (omega arith))
