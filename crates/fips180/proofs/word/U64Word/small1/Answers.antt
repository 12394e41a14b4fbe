-- What the document says, by computation.
-- Assumes nothing.
use Rattle.std.proofs.Common.{refl}
use Rattle.seqs.specs.Operations.{rotr}
use Rattle.fips180.specs.Functions64.{σ1}
use Rattle.fips180.proofs.word.U64Word.small1.Goals as goal

pub returns : goal.returns
unfolding σ1 rotr
returns c = rw (c.rotate_right.ensures, c.rotate_right-2.ensures) refl
