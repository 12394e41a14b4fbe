-- The table's promise, as a step.
-- Assumes nothing.
use Rattle.script.proofs.Laws.{counted_steps}
use Rattle.script.proofs.counted.Goals as goal

pub returns : goal.returns
returns c =
    let a = c.args in
    counted_steps a.table.now a.axle c.held-r.result c.bytes.result c.held-r.ensures (rw c.of.ensures at c.bytes.ensures)
