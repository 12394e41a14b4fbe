-- The server: 9 or 5.
-- Assumes nothing.
use Rattle.std.proofs.Common.{sym, ◌∙◌}
use Rattle.decision.specs.Steps.{ri_in}
use Rattle.decision.proofs.Turns.{server_first, server_closed, server_signal, server_later}
use Rattle.decision.proofs.indication.server_indication.Goals as goal

pub returns-then-connection-eq0 : goal.returns-then-connection-eq0
returns-then-connection-eq0 c = let a = c.args in c.first.ensures ∙ sym (server_first a.connection.now a.switches.now (ri_in a.indication) a.signal c.if-connection-eq0.true)

pub returns-then-is_closed : goal.returns-then-is_closed
returns-then-is_closed c = let a = c.args in sym (server_closed a.connection.now a.switches.now (ri_in a.indication) a.signal (sym c.if-is_closed.ensures))

pub returns-then-signal : goal.returns-then-signal
returns-then-signal c = let a = c.args in sym (server_signal a.connection.now a.switches.now (ri_in a.indication) a.signal c.if-connection-eq0.false (sym c.if-is_closed.ensures) c.if-signal.true)

pub returns : goal.returns
returns c = let a = c.args in c.says.ensures ∙ sym (server_later a.connection.now a.switches.now (ri_in a.indication) a.signal c.if-connection-eq0.false (sym c.if-is_closed.ensures) c.if-signal.false)
