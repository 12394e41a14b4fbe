-- The table's promise, as a step.
-- Assumes nothing.
use Rattle.script.proofs.Laws.{withdrew_steps}
use Rattle.script.proofs.withdrew.Goals as goal

pub returns : goal.returns
returns c =
    let a = c.args in
    withdrew_steps a.table.now a.axle a.identifier.now c.withdraw-r.result c.bytes.result c.withdraw-r.ensures (rw c.of.ensures at c.bytes.ensures)
