-- Refused by the secret's length, or the first 12 bytes of the output.
-- Assumes nothing.
use Rattle.std.proofs.Common.{ap, Ok}
use Rattle.refusal.specs.Table.{refusal_of}
use Rattle.prf.specs.Promise.{verified_of}
use Rattle.prf.specs.Secrets.{verify_data}
use Rattle.prf.proofs.Numbers.{verify_other, verify_done}
use Rattle.prf.proofs.secrets.verify_data.Goals as goal

pub returns-then-secret-ne-SECRET : goal.returns-then-secret-ne-SECRET
unfolding verified_of refusal_of
returns-then-secret-ne-SECRET g c = rw (verify_other _ c.if-secret-ne-SECRET.true)

pub returns : goal.returns
unfolding verified_of verify_data
returns g c = rw (verify_done _ c.if-secret-ne-SECRET.false) (ap Ok (rw c.finished_label-label.ensures at (c.expand.ensures _ c.by-keyed.ensures)))
