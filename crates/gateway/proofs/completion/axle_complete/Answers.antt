-- The record that is handed back is stored where the caller's stands.
-- Assumes nothing.
use Rattle.gateway.specs.Completion.{left_by}
use Rattle.gateway.proofs.Completing.{completes}
use Rattle.gateway.proofs.completion.axle_complete.Goals as goal

pub returns-in-Ok : goal.returns-in-Ok
returns-in-Ok c =
    rw c.refuse.ensures
    (completes c.args.connection.now c.args.log c.finished.result c.args.decision _ (c.in-Ok.ensures c.args.connection.now) c.finished.ensures)

pub returns-in-Err : goal.returns-in-Err
returns-in-Err c =
    rw c.from.ensures
    (completes c.args.connection.now c.args.log c.finished.result c.args.decision _ (c.in-Err.ensures c.args.connection.now) c.finished.ensures)
