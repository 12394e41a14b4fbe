-- Six queues without a session.
-- Assumes nothing.
use Rattle.sessions.specs.Keeps.{part_of, table_of}
use Rattle.sessions.proofs.table.Table.blank.Goals as goal

pub returns : goal.returns
unfolding part_of table_of
returns c = rw c.blank.ensures
