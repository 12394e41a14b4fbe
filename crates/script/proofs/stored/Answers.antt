-- The table's promise, as a step.
-- Assumes nothing.
use Rattle.script.proofs.Laws.{stored_steps}
use Rattle.script.proofs.stored.Goals as goal

pub returns : goal.returns
returns c =
    let a = c.args in
    stored_steps a.table.now (record { axle = a.axle; identifier = a.identifier.now; ems = a.ems; suite = a.suite; secret = a.secret.now }) c.store-r.result c.bytes.result c.store-r.ensures (rw c.of.ensures at c.bytes.ensures)
