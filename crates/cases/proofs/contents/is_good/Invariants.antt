-- The end of the bodies is summed up: what is left of the lengths makes up the whole.
-- Assumes nothing.
use mathlib.Core.Path.{◌≡◌}
use Prim.Native.Nat.{◌+◌, ◌*◌, ◌≤◌}
use Rattle.cases.proofs.Bodies.{left}
use Rattle.cases.proofs.contents.is_good.Given as goal

abbrev pub invariant-loop-i : goal.invariant-loop-i
invariant-loop-i l = (l.end ≤ 511 + 65536 * l.i) × (l.end + left l.case l.i ≡ l.size + left l.case 0)
