-- Renegotiation is closed.
-- Assumes nothing.
use Rattle.std.proofs.Common.{sym}
use borrow.Author.Tests.{eq-eqb, ne_eqb}
use Rattle.seqs.specs.Cases.{not_not}
use Rattle.decision.specs.Connection.{closed}
use Rattle.decision.proofs.connection.Connection.is_closed.Goals as goal

pub returns-then-self-ne0-2 : goal.returns-then-self-ne0-2
unfolding closed
returns-then-self-ne0-2 c = let k = c.args.self.now in rw (ne_eqb k.completed 0 c.if-self-ne0.true, ne_eqb k.barred 0 c.if-self-ne0-2.true)

pub returns-else-self-ne0-2 : goal.returns-else-self-ne0-2
unfolding closed
returns-else-self-ne0-2 c = let k = c.args.self.now in rw (ne_eqb k.completed 0 c.if-self-ne0.true, eq-eqb k.barred 0 c.if-self-ne0-2.false) (sym (not_not _))

pub returns-else-self-ne0 : goal.returns-else-self-ne0
unfolding closed
returns-else-self-ne0 c = rw (eq-eqb c.args.self.now.completed 0 c.if-self-ne0.false)
