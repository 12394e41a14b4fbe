-- A number in two bytes.
-- Assumes nothing.
use mathlib.Core.Path.{refl}
use Prim.Native.Nat.{◌/◌}
use lib.Seq.{lt-length-set}
use Rattle.octets.proofs.Placing.{placed_two}
use native.Mathlib.Omega.{arith}
use Rattle.writing.proofs.places.put_pair.Goals as goal

pub bounds-out-at-2 : goal.bounds-out-at-2
bounds-out-at-2 c = lt-length-set c.args.out.now c.args.at (c.args.number / 256) (omega arith)

pub returns : goal.returns
returns c = (refl, placed_two _ _ _ _ (omega arith))
