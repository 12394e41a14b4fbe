-- The server's six rows.
-- Assumes nothing.
use Rattle.std.proofs.Common.{sym, ◌∙◌, ap}
use borrow.Author.Tests.{ne_eqb}
use Rattle.decision.specs.Server.{resumable, server_outcome}
use Rattle.decision.specs.Steps.{reached}
use Rattle.decision.proofs.Outcomes.{row_none}
use Rattle.decision.proofs.outcome.server_outcome.Goals as goal

pub returns-in_default : goal.returns-in_default
returns-in_default c = let a = c.args in rw c.in_default.is (c.full.ensures ∙ sym (ap reached (row_none a.switches.now a.ems)))

pub returns-in-true-true : goal.returns-in-true-true
unfolding server_outcome resumable
returns-in-true-true c = rw (c.in-Some.is, ne_eqb c.in-Some.original.ems 0 c.in-true-true.is-0, c.in-true-true.is-1)

pub returns-in-true-false : goal.returns-in-true-false
unfolding server_outcome resumable
returns-in-true-false c = rw (c.in-Some.is, ne_eqb c.in-Some.original.ems 0 c.in-true-false.is-0, c.in-true-false.is-1)

pub returns-in-false-true : goal.returns-in-false-true
unfolding server_outcome resumable
returns-in-false-true c = rw (c.in-Some.is, c.in-false-true.is-0, c.in-false-true.is-1)

pub returns-in-false-false : goal.returns-in-false-false
unfolding server_outcome resumable
returns-in-false-false c = rw (c.in-Some.is, c.in-false-false.is-0, c.in-false-false.is-1) c.legacy_resumption.ensures
