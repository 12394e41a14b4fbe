-- The table's promise, as a step.
-- Assumes nothing.
use Rattle.script.proofs.Laws.{cleared_steps}
use Rattle.script.proofs.cleared.Goals as goal

pub returns : goal.returns
returns c =
    let a = c.args in
    cleared_steps a.table.now c.clear-r.result c.bytes.result c.clear-r.ensures (rw c.of.ensures at c.bytes.ensures)
