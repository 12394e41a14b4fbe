-- Nothing where the two are the same, else a line.
-- Assumes nothing.
use Rattle.cases.specs.Digits.{ascii}
use Rattle.comparing.specs.Differences.{unless}
use Rattle.comparing.specs.Comparison.{line_of, text}
use Rattle.comparing.proofs.Putting.{puts_none}
use Rattle.comparing.proofs.Texts.{text_one}
use Rattle.comparing.proofs.extensions.put_extension.Goals as goal

pub put_numbered-requires : goal.put_numbered-requires
unfolding unless line_of ascii
put_numbered-requires c =
    rw (c.if-not-same.true, text_one) at c.requires

pub returns-then-not-same : goal.returns-then-not-same
unfolding unless line_of ascii
returns-then-not-same c =
    rw (c.if-not-same.true, text_one) c.put_numbered.ensures

pub returns-else-not-same : goal.returns-else-not-same
unfolding unless text
returns-else-not-same c = rw c.if-not-same.false (puts_none _)
