-- The whole blocks one after the other, each where it lies, and each counted.
-- Assumes nothing.
use Rattle.std.proofs.Common.{ℕ, ◌+◌, ◌*◌, ap, add-one, arith}
use Rattle.seqs.specs.Sha2.{step}
use Rattle.seqs.proofs.Blocks.{after_none, after_more}
use Rattle.fips180.specs.Kinds.{size}
use Rattle.fips180.proofs.running.blocks.Goals as goal

pub loop-i-init : goal.loop-i-init
loop-i-init g c = (after_none (size g.W.Word.kind) (step g.W.Word.kind) _ _, omega arith)

pub loop-i-preserved : goal.loop-i-preserved
loop-i-preserved g c =
    let F = g.W.Word.kind in
    let from = c.args.from in
    let i = c.loop-i.i in
    let e = ap (λ (n : ℕ). from + n * i) c.block-size.ensures in
    (rw (c.work.ensures, c.loop-i.invariant.0, add-one) (after_more (size F) (step F) _ c.args.b.now from i _ e), omega arith)
