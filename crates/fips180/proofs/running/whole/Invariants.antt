-- So many blocks are worked.
-- Assumes nothing.
use Rattle.std.proofs.Common.{◌≡◌, drop}
use Rattle.seqs.specs.Blocks.{after}
use Rattle.seqs.specs.Sha2.{step}
use Rattle.fips180.specs.Kinds.{size}
use Rattle.fips180.specs.Layout.{value_of}
use Rattle.fips180.proofs.running.whole.Given as goal

abbrev pub invariant-loop-i : goal.invariant-loop-i
invariant-loop-i g l =
    let F = g.W.Word.kind in
    let n = g.W.Word.number in
    value_of n l.v ≡ after (size F) (step F) (value_of n l.initial.v) l.i (drop 0 l.message)
