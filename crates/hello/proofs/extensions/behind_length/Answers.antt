-- The bytes of an RI.
-- Assumes nothing.
use Rattle.std.proofs.Common.{ap₂}
use borrow.Author.Tests.{eq-eqb, ne_eqb}
use Rattle.hello.specs.Places.{part, bytes_part}
use Rattle.hello.proofs.extensions.behind_length.Goals as goal

pub returns-then-data-eq0 : goal.returns-then-data-eq0
unfolding bytes_part
returns-then-data-eq0 c = rw (eq-eqb c.args.«data».length 0 c.if-data-eq0.true) (ap₂ part c.default.ensures.0 c.default.ensures.1)

pub returns : goal.returns
unfolding bytes_part
returns c = rw (ne_eqb c.args.«data».length 0 c.if-data-eq0.false)
