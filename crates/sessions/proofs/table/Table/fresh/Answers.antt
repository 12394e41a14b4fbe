-- It begins empty.
-- Assumes nothing.
use Rattle.sessions.proofs.Kept.{keeps_empty}
use Rattle.sessions.proofs.table.Table.fresh.Goals as goal

pub returns : goal.returns
returns c = record { keeps = keeps_empty c.blank.result c.blank.ensures }
