-- How many bytes the whole message has.
-- Assumes nothing.
use Rattle.std.proofs.Common.{arith}
use Rattle.writing.proofs.Sizing.{sum_right, size_unblocked, size_bare, size_block, size_long}
use Rattle.writing.proofs.sizes.whole_size.Goals as goal
use Rattle.writing.proofs.sizes.whole_size.Goals.{then-count-gt-LONGEST-via-then-count-gt-LONGEST, then-count-gt-LONGEST-via-else-count-gt-LONGEST+then-bytes-gt-LONGEST}

pub returns-then-count-ne0 : goal.returns-then-count-ne0
returns-then-count-ne0 c = size_unblocked _ _ _ _ c.if-not-list.true c.if-count-ne0.true

pub returns-then-not-list : goal.returns-then-not-list
returns-then-not-list c = size_bare _ _ _ _ c.if-not-list.true c.if-count-ne0.false c.within.ensures

pub returns-then-count-gt-LONGEST : goal.returns-then-count-gt-LONGEST
returns-then-count-gt-LONGEST c = size_long _ _ _ _ c.if-not-list.false (elim c.then-count-gt-LONGEST.branch [ then-count-gt-LONGEST-via-then-count-gt-LONGEST w ↦ omega arith | then-count-gt-LONGEST-via-else-count-gt-LONGEST+then-bytes-gt-LONGEST w ↦ omega arith ])

pub returns : goal.returns
returns c = size_block _ _ _ _ c.if-not-list.false (rw (sum_right _ _ _) at c.within-2.ensures)
