-- The server's decision on plain values, way by way.
-- Assumes nothing.
use Rattle.std.proofs.Common.{refl, sym, ◌∙◌}
use Rattle.std.proofs.lemmas.Result.{err_from_is_err_and}
use Rattle.decision.specs.Server.{server_flag}
use Rattle.decision.specs.Steps.{outcome_of, asked_in, original_in}
use Rattle.decision.proofs.Judging.{plain_turn, plain_six, plain_short, plain_done, reply_is}
use Rattle.decision.proofs.Outcomes.{reached_none, reached_some}
use Rattle.decision.proofs.server.judge.Goals as goal

pub returns-in_err-server_indication : goal.returns-in_err-server_indication
returns-in_err-server_indication c =
    let a = c.args in
    let p = err_from_is_err_and c.from_residual.result c.from_residual.ensures.1 in
    rw (p.1, p.2) (plain_turn a.connection.now a.switches.now (original_in a.session) a.out.now (asked_in a.asked) c.in_err-server_indication.field-0.0 c.in_err-server_indication.ensures)

pub returns-in_err-outcome : goal.returns-in_err-outcome
returns-in_err-outcome c =
    let a = c.args in
    let p = err_from_is_err_and c.from_residual-in_err-outcome.result c.from_residual-in_err-outcome.ensures.1 in
    let n = reached_none _ c.in_err-outcome.field-0.0 c.in_err-outcome.ensures in
    rw (p.1, p.2, n.0) (plain_six a.connection.now a.switches.now (original_in a.session) a.out.now (asked_in a.asked) (sym c.in_ok-server_indication.ensures) n.1)

pub returns-in_err-put : goal.returns-in_err-put
unfolding server_flag
returns-in_err-put c =
    let a = c.args in
    let o = c.in_ok-outcome.outcome in
    let q = asked_in a.asked in
    let p = err_from_is_err_and c.from_residual-in_err-put.result c.from_residual-in_err-put.ensures.1 in
    let found = reached_some _ o c.in_ok-outcome.ensures in
    let reply = c.as_slice-bytes.ensures ∙ c.build_reply-reply.ensures ∙ reply_is a.connection.now a.switches.now (original_in a.session) q c.flag_of-flag.ensures found in
    rw (p.1, p.2)
    (plain_short a.connection.now a.switches.now (original_in a.session) a.out.now q (sym c.in_ok-server_indication.ensures) (outcome_of o) found c.as_slice-bytes.result.now reply c.put.new.out c.put.ensures.1 c.in_err-put.field-0.0 c.in_err-put.ensures.0)

pub returns : goal.returns
unfolding server_flag
returns c =
    let a = c.args in
    let o = c.in_ok-outcome.outcome in
    let q = asked_in a.asked in
    let found = reached_some _ o c.in_ok-outcome.ensures in
    let reply = c.as_slice-bytes.ensures ∙ c.build_reply-reply.ensures ∙ reply_is a.connection.now a.switches.now (original_in a.session) q c.flag_of-flag.ensures found in
    rw c.decided.ensures
    (plain_done a.connection.now a.switches.now (original_in a.session) a.out.now q (sym c.in_ok-server_indication.ensures) (outcome_of o) found c.as_slice-bytes.result.now reply c.put.new.out c.put.ensures.1 c.in_ok-put.ensures.0 c.flag_of-flag.ensures refl)
