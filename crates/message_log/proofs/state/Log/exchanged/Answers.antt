-- By a byte that is no place none was.
-- Assumes nothing.
use Rattle.message_log.proofs.Asking.{unplaced_exchanged}
use Rattle.message_log.proofs.state.Log.exchanged.Goals as goal

pub returns-in_default-2 : goal.returns-in_default-2
returns-in_default-2 c = unplaced_exchanged c.args.self.now c.in_default.ensures.1
