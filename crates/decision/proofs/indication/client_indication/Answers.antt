-- The client: 7 or 5.
-- Assumes nothing.
use Rattle.std.proofs.Common.{sym, ◌∙◌, ap, List, ℕ}
use Rattle.seqs.specs.Pick.{pick}
use Rattle.decision.specs.Connection.{saying}
use Rattle.decision.specs.Steps.{ri_in}
use Rattle.decision.proofs.Turns.{client_first, client_closed, client_later}
use Rattle.decision.proofs.indication.client_indication.Goals as goal

pub returns-then-connection-eq0 : goal.returns-then-connection-eq0
returns-then-connection-eq0 c = let a = c.args in c.first.ensures ∙ sym (client_first a.connection.now a.switches.now (ri_in a.indication) c.if-connection-eq0.true)

pub returns-then-is_closed : goal.returns-then-is_closed
returns-then-is_closed c = let a = c.args in sym (client_closed a.connection.now a.switches.now (ri_in a.indication) (sym c.if-is_closed.ensures))

pub returns : goal.returns
returns c =
    let a = c.args in
    c.says.ensures
    ∙ ap (λ (v : List ℕ). pick {A = ℕ} (saying v (ri_in a.indication)) 0 5) c.verify_data-expected.ensures
    ∙ sym (client_later a.connection.now a.switches.now (ri_in a.indication) c.if-connection-eq0.false (sym c.if-is_closed.ensures))
