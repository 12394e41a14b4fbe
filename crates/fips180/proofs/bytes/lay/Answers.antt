-- The first i bytes are b's, behind the first at; the rest is as it was.
-- Assumes nothing.
use Rattle.std.proofs.Common.{◌≡◌, length, add-one, arith}
use lib.Seq.{paste-zero, paste-suc}
use Rattle.fips180.proofs.bytes.lay.Goals as goal

pub loop-i-init : goal.loop-i-init
loop-i-init c = paste-zero c.args.block.now c.args.at c.args.b.now

pub loop-i-preserved : goal.loop-i-preserved
loop-i-preserved c =
    let a = c.args in
    rw (add-one, c.loop-i.invariant) (paste-suc a.block.now a.at a.b.now c.loop-i.i 0 (omega arith) (omega arith))

pub returns : goal.returns
returns c =
    let e : c.loop-i.i ≡ length c.args.b.now = omega arith in
    rw e at c.loop-i.invariant
