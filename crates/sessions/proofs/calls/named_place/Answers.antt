-- An identifier is 1 to 32 bytes.
-- Assumes nothing.
use Rattle.std.proofs.Common.{arith, ◌∙◌}
use Rattle.sessions.proofs.Kept.{named_long, named_bad}
use Rattle.sessions.proofs.calls.named_place.Goals as goal

pub returns-in-1-to-32-clause-value : goal.returns-in-1-to-32-clause-value
returns-in-1-to-32-clause-value c = let a = c.args in c.place_of.ensures.value ∙ named_long a.axle a.identifier.now (omega arith) (omega arith)

pub returns-in_default-clause-value : goal.returns-in_default-clause-value
returns-in_default-clause-value c = let a = c.args in named_bad a.axle a.identifier.now (λ l h. omega arith)

pub returns-in_default-2-clause-value : goal.returns-in_default-2-clause-value
returns-in_default-2-clause-value c = let a = c.args in named_bad a.axle a.identifier.now (λ l h. omega arith)
