-- What the document says, by computation.
-- Assumes nothing.
use Rattle.std.proofs.Common.{refl}
use Rattle.seqs.specs.Operations.{rotr}
use Rattle.fips180.specs.Functions32.{σ0}
use Rattle.fips180.proofs.word.U32Word.small0.Goals as goal

pub returns : goal.returns
unfolding σ0 rotr
returns c = rw (c.rotate_right.ensures, c.rotate_right-2.ensures) refl
