-- The Finished that is due is taken where it carries its value; else the log is as it was.
-- Assumes nothing.
use Rattle.message_log.proofs.state.Log.finish.Goals as goal

pub returns-in-Ok : goal.returns-in-Ok
returns-in-Ok c = rw c.refuse.ensures (c.in-Ok.ensures.taken _ c.taking-log.ensures)
