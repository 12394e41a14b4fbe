-- An axle is 1 to 6.
-- Assumes nothing.
use Rattle.std.proofs.Common.{arith}
use Rattle.sessions.proofs.Kept.{place_good, place_bad}
use Rattle.sessions.proofs.calls.place_of.Goals as goal

pub returns-in-1-to-6-clause-value : goal.returns-in-1-to-6-clause-value
returns-in-1-to-6-clause-value c = rw c.from.ensures (place_good c.args.axle (omega arith) (omega arith))

pub returns-in_default-clause-value : goal.returns-in_default-clause-value
returns-in_default-clause-value c = place_bad c.args.axle (λ l h. omega arith)

pub returns-in_default-2-clause-value : goal.returns-in_default-2-clause-value
returns-in_default-2-clause-value c = place_bad c.args.axle (λ l h. omega arith)
