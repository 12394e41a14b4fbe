-- Nothing where the two are the same, else a line.
-- Assumes nothing.
use Rattle.cases.specs.Digits.{ascii}
use Rattle.comparing.specs.Differences.{unless}
use Rattle.comparing.specs.Comparison.{line_of, text}
use Rattle.comparing.proofs.Putting.{puts_none}
use Rattle.comparing.proofs.Texts.{text_one}
use Rattle.comparing.proofs.fields.put_field.Goals as goal

pub put_line-requires : goal.put_line-requires
unfolding unless line_of ascii
put_line-requires c =
    rw (c.if-not-same.true, text_one) at c.requires

pub returns-then-not-same : goal.returns-then-not-same
unfolding unless line_of ascii
returns-then-not-same c =
    rw (c.if-not-same.true, text_one) c.put_line.ensures

pub returns-else-not-same : goal.returns-else-not-same
unfolding unless text
returns-else-not-same c = rw c.if-not-same.false (puts_none _)
