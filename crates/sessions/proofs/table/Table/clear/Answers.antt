-- An empty table, whatever it was.
-- Assumes nothing.
use Rattle.sessions.proofs.Kept.{keeps_empty}
use Rattle.sessions.proofs.table.Table.clear.Goals as goal

pub returns : goal.returns
returns c = record { refusal = c.refuse.ensures; keeps = keeps_empty c.blank.result c.blank.ensures }
