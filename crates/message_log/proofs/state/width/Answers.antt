-- By the hash of the suite.
-- Assumes nothing.
use mathlib.Core.Path.{sym, ◌∙◌, ap}
use native.Mathlib.Omega.{arith}
use Rattle.transcript.specs.Choice.{algorithm_by}
use Rattle.message_log.specs.Suite.{width_of}
use Rattle.message_log.proofs.state.width.Goals as goal

pub returns-then-is_sha384 : goal.returns-then-is_sha384
returns-then-is_sha384 x = (omega arith, λ c m h. sym (ap width_of (x.is_sha384.ensures c m h ∙ ap algorithm_by x.if-is_sha384.true)))

pub returns-else-is_sha384 : goal.returns-else-is_sha384
returns-else-is_sha384 x = (omega arith, λ c m h. sym (ap width_of (x.is_sha384.ensures c m h ∙ ap algorithm_by x.if-is_sha384.false)))
