-- The running hash that the block begins, with three pieces more.
-- Assumes nothing.
use Rattle.std.proofs.Common.{◌++◌, ap, ◌∙◌, append_assoc, arith, length-append}
use Rattle.sha256.specs.Sha256.{sha256}
use Rattle.sha256.proofs.FirstBlock.{begun_runs}
use Rattle.sha256.proofs.compress.State.ended.Goals as goal

pub returns : goal.returns
returns c k h w =
    let a = c.args in
    let x = a.a.now in
    let y = a.b.now in
    let z = a.c.now in
    let r0 = begun_runs h in
    let r1 = c.take.ensures.runs k r0 (omega (arith, h.whole)) in
    let r2 = c.take-2.ensures.runs (k ++ x) r1 (simp length-append (omega (arith, h.whole))) in
    let r3 = c.take-3.ensures.runs ((k ++ x) ++ y) r2 (simp length-append (omega (arith, h.whole))) in
    c.digest.ensures _ r3
    ∙ ap sha256 (append_assoc (k ++ x) y z ∙ append_assoc k x (y ++ z))
