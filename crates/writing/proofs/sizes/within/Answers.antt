-- A size within the bound of a message.
-- Assumes nothing.
use Rattle.writing.proofs.Sizing.{within_not, within_yes}
use Rattle.writing.proofs.sizes.within.Goals as goal

pub returns-then-size-gt-LONGEST : goal.returns-then-size-gt-LONGEST
returns-then-size-gt-LONGEST c = within_not _ c.if-size-gt-LONGEST.true

pub returns : goal.returns
returns c = within_yes _ c.if-size-gt-LONGEST.false
