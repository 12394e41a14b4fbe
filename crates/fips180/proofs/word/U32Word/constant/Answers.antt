-- The constant stands in the table.
-- Assumes nothing.
use Rattle.std.proofs.Common.{refl}
use Rattle.fips180.specs.Constants32.{ks}
use Rattle.fips180.proofs.word.U32Word.constant.Goals as goal

pub returns : goal.returns
unfolding ks
returns c = refl
