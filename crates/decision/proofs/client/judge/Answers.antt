-- The client's decision on plain values, way by way.
-- Assumes nothing.
use Rattle.std.proofs.Common.{sym, ◌∙◌}
use Rattle.std.proofs.lemmas.Result.{err_from_is_err_and}
use Rattle.decision.specs.Client.{client_flag}
use Rattle.decision.specs.Steps.{told_in, original_in, weighed_of_offered}
use Rattle.decision.proofs.Outcomes.{reached_none, reached_some}
use Rattle.decision.proofs.Telling.{told_others, told_turn, told_suite, told_six, told_done, suite_is, outcome_is}
use Rattle.decision.proofs.client.judge.Goals as goal

pub returns-then-told : goal.returns-then-told
returns-then-told c =
    let a = c.args in
    told_others a.connection.now a.switches.now a.offered.now (weighed_of_offered (original_in a.session)) (told_in a.told) c.if-told.true

pub returns-in_err-client_indication : goal.returns-in_err-client_indication
returns-in_err-client_indication c =
    let a = c.args in
    let p = err_from_is_err_and c.from_residual.result c.from_residual.ensures.1 in
    rw (p.1, p.2)
    (told_turn a.connection.now a.switches.now a.offered.now (weighed_of_offered (original_in a.session)) (told_in a.told) c.if-told.false c.in_err-client_indication.field-0.0 c.in_err-client_indication.ensures)

pub returns-then-differs : goal.returns-then-differs
returns-then-differs c =
    let a = c.args in
    let t = told_in a.told in
    let k = original_in a.session in
    let d = suite_is a.offered.now t k _ c.requires c.resumed_session-resumed.ensures in
    told_suite a.connection.now a.switches.now a.offered.now (weighed_of_offered k) t c.if-told.false (sym c.in_ok-client_indication.ensures) (d ∙ sym c.if-differs.ensures)

pub returns-in_err-outcome : goal.returns-in_err-outcome
returns-in_err-outcome c =
    let a = c.args in
    let t = told_in a.told in
    let k = original_in a.session in
    let p = err_from_is_err_and c.from_residual-in_err-outcome.result c.from_residual-in_err-outcome.ensures.1 in
    let n = reached_none _ c.in_err-outcome.field-0.0 c.in_err-outcome.ensures in
    let d = suite_is a.offered.now t k _ c.requires c.resumed_session-resumed.ensures in
    let o = outcome_is a.offered.now t a.switches.now k _ c.requires c.resumed_session-resumed.ensures in
    rw (p.1, p.2, n.0)
    (told_six a.connection.now a.switches.now a.offered.now (weighed_of_offered k) t c.if-told.false (sym c.in_ok-client_indication.ensures) (d ∙ sym c.if-differs.ensures) (o ∙ n.1))

pub returns : goal.returns
unfolding client_flag
returns c =
    let a = c.args in
    let t = told_in a.told in
    let k = original_in a.session in
    let n = reached_some _ c.in_ok-outcome.outcome c.in_ok-outcome.ensures in
    let d = suite_is a.offered.now t k _ c.requires c.resumed_session-resumed.ensures in
    let o = outcome_is a.offered.now t a.switches.now k _ c.requires c.resumed_session-resumed.ensures in
    c.decided.ensures
    ∙ told_done a.connection.now a.switches.now a.offered.now (weighed_of_offered k) t c.if-told.false (sym c.in_ok-client_indication.ensures) (d ∙ sym c.if-differs.ensures) (o ∙ n) c.flag_of-flag.ensures
