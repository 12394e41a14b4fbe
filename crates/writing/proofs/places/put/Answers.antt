-- Bytes copied to their place.
-- Assumes nothing.
use Rattle.std.proofs.Common.{◌≡◌, refl, length, add-one, arith}
use lib.Seq.{paste-zero, paste-suc, take-length}
use Rattle.octets.specs.Placed.{placed}
use Rattle.writing.proofs.places.put.Goals as goal

pub loop-i-init : goal.loop-i-init
loop-i-init c = paste-zero c.args.out.now c.args.at c.args.bytes.now

pub loop-i-preserved : goal.loop-i-preserved
loop-i-preserved c =
    let a = c.args in
    rw (add-one, c.loop-i.invariant) (paste-suc a.out.now a.at a.bytes.now c.loop-i.i 0 (omega arith) (omega arith))

pub returns : goal.returns
unfolding placed
returns c =
    let e : c.loop-i.i ≡ length c.args.bytes.now = omega arith in
    (refl, rw (e, take-length) at c.loop-i.invariant)
