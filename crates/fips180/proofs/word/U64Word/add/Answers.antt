-- The sum modulo 2 ^ 64.
-- Assumes nothing.
use Rattle.std.proofs.Common.{refl}
use Rattle.seqs.specs.Operations.{add}
use Rattle.fips180.proofs.word.U64Word.add.Goals as goal

pub returns : goal.returns
unfolding add
returns c = refl
