-- Of those that came, the lowest is kept.
-- Assumes nothing.
use Prim.Native.Nat.{◌-◌}
use lib.ListN.{length}
use Rattle.comparing.specs.Steps.{least}
use Rattle.comparing.proofs.Handing.{Asking}
use Rattle.comparing.proofs.extensions.lowest.Given as goal

abbrev pub invariant-loop-next : goal.invariant-loop-next
invariant-loop-next l = Asking l.message l.list l.low (least l.best) l.at

abbrev pub decreases-loop-next : goal.decreases-loop-next
decreases-loop-next l = length l.message - l.at
