-- The messages one after the other.
-- Assumes nothing.
use mathlib.Core.Path.{◌≡◌}
use Prim.Native.Nat.{◌+◌, ◌*◌, ◌≤◌}
use lib.ListN.{length}
use Rattle.cases.proofs.Bodies.{left}
use Rattle.listing.proofs.Going.{Going}
use Rattle.listing.proofs.case.lines.Given as goal

abbrev pub invariant-loop-i : goal.invariant-loop-i
invariant-loop-i l = record {
  room : length l.text ≤ 23 + 16 * l.i;
  fills : l.at + left l.case l.i ≡ length l.case;
  going : Going l.case l.i l.at l.text l.log;
}
