-- The header behind an empty text.
-- Assumes nothing.
use Rattle.std.proofs.Common.{rules}
use Rattle.cases.specs.Digits.{ascii}
use Rattle.listing.specs.Texts.{header}
use Rattle.listing.proofs.case.headed.Goals as goal

pub returns : goal.returns
unfolding header ascii
returns c = search rules
