-- A full handshake.
-- Assumes nothing.
use borrow.Author.Tests.{eq-eqb, ne_eqb}
use Rattle.decision.specs.Client.{fullness}
use Rattle.decision.proofs.outcome.full.Goals as goal

pub returns-then-ems : goal.returns-then-ems
unfolding fullness
returns-then-ems c = rw c.if-ems.true

pub returns-then-switches-ne0 : goal.returns-then-switches-ne0
unfolding fullness
returns-then-switches-ne0 c = rw (c.if-ems.false, ne_eqb c.args.switches.now.legacy_full 0 c.if-switches-ne0.true)

pub returns : goal.returns
unfolding fullness
returns c = rw (c.if-ems.false, eq-eqb c.args.switches.now.legacy_full 0 c.if-switches-ne0.false)
