-- Of a session that is resumed: by its EMS and the hello's.
-- Assumes nothing.
use borrow.Author.Tests.{ne_eqb}
use Rattle.decision.specs.Client.{resumption}
use Rattle.decision.proofs.outcome.client_outcome.Goals as goal

pub returns-in-true-true : goal.returns-in-true-true
unfolding resumption
returns-in-true-true c = rw (c.in-Some.is, ne_eqb c.in-Some.original.ems 0 c.in-true-true.is-0, c.in-true-true.is-1)

pub returns-in-false-false : goal.returns-in-false-false
unfolding resumption
returns-in-false-false c = rw (c.in-Some.is, c.in-false-false.is-0, c.in-false-false.is-1) c.legacy_resumption.ensures

pub returns-in_default-2 : goal.returns-in_default-2
unfolding resumption
returns-in_default-2 c = rw (c.in-Some.is, ne_eqb c.in-Some.original.ems 0 c.in_default-2.is-0, c.in_default-2.is-1)

pub returns-in_default-2-2 : goal.returns-in_default-2-2
unfolding resumption
returns-in_default-2-2 c = rw (c.in-Some.is, c.in_default-2.is-0, c.in_default-2.is-1)
