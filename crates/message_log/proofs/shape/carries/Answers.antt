-- The body is what follows the header.
-- Assumes nothing.
use Prim.Native.Nat.{◌-◌}
use native.Mathlib.Omega.{arith}
use lib.ListN.{length, drop, length-drop}
use lib.Seq.{take_all}
use Rattle.message.specs.Frame.{body_of}
use Rattle.message_log.proofs.shape.carries.Goals as goal

pub returns : goal.returns
unfolding body_of
returns c = let m = c.args.message.now in rw (← take_all (length m - 4) (drop 4 m) (rw length-drop (omega arith))) c.same.ensures
