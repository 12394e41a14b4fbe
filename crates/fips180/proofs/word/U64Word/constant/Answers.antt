-- The constant stands in the table.
-- Assumes nothing.
use Rattle.std.proofs.Common.{refl}
use Rattle.fips180.specs.Constants64.{ks}
use Rattle.fips180.proofs.word.U64Word.constant.Goals as goal

pub returns : goal.returns
unfolding ks
returns c = refl
