-- What the document says, by computation.
-- Assumes nothing.
use Rattle.std.proofs.Common.{refl}
use Rattle.seqs.specs.Operations.{rotr}
use Rattle.fips180.specs.Functions64.{Σ1}
use Rattle.fips180.proofs.word.U64Word.big1.Goals as goal

pub returns : goal.returns
unfolding Σ1 rotr
returns c = rw (c.rotate_right.ensures, c.rotate_right-2.ensures, c.rotate_right-3.ensures) refl
