-- Every place is blank, none counts.
-- Assumes nothing.
use mathlib.Core.Path.{ap}
use lib.ListN.{replicate}
use Rattle.sessions.specs.Keeps.{laid}
use Rattle.sessions.specs.declared.row.Row.{Row}
use Rattle.sessions.specs.declared.queue.Queue.{Queue}
use Rattle.sessions.proofs.queue.Queue.blank.Goals as goal

pub returns : goal.returns
unfolding laid
returns c = ap {B = Queue} (λ (r : Row). record { rows = replicate 8 r; held = 0 }) c.blank.ensures
