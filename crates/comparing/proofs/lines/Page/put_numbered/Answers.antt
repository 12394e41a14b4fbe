-- The line of its digits.
-- Assumes nothing.
use Rattle.comparing.proofs.lines.Page.put_numbered.Goals as goal

pub put_line-requires : goal.put_line-requires
put_line-requires c = rw (c.as_slice.ensures.value, c.decimal_of.ensures) c.requires

pub returns : goal.returns
returns c = rw (c.as_slice.ensures.value, c.decimal_of.ensures) at c.put_line.ensures
