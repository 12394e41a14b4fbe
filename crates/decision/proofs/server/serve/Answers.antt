-- The server's decision: the axle, the reading, the session, and what it asks.
-- Assumes nothing.
use Rattle.std.proofs.Common.{sym, ◌∙◌, ap, arith}
use mathlib.Core.Logic.{⊎_elim}
use Rattle.refusal.specs.Reason.{refused}
use Rattle.sessions.proofs.Numbers.{axle_good}
use Rattle.sessions.proofs.Sound.{axle_bad}
use Rattle.hello.proofs.Learnt.{client_learnt, client_fault}
use Rattle.decision.proofs.Asking.{asked_is}
use Rattle.decision.proofs.Judging.{plain_same}
use Rattle.decision.proofs.Serving.{server_axle, server_faulted, server_judged}
use Rattle.decision.proofs.server.serve.Goals as goal

pub returns-then-axle-lt1 : goal.returns-then-axle-lt1
returns-then-axle-lt1 c =
    let a = c.args in
    server_axle a.table.now a.axle _ a.connection.now a.switches.now a.out.now
    (⊎_elim (λ l. axle_bad a.axle (λ h k. omega arith)) (λ g. axle_bad a.axle (λ h k. omega (arith, g.1))) c.then-axle-lt1.either)

pub returns-in_default : goal.returns-in_default
returns-in_default c =
    let a = c.args in
    let e = ap refused (sym c.unwrap_err.ensures) ∙ c.read_client_hello-read.ensures in
    server_faulted a.table.now a.axle _ a.connection.now a.switches.now a.out.now (sym (axle_good a.axle c.if-axle-lt1.false (omega arith))) (client_fault a.message.now _ e)

pub indication_of-requires : goal.indication_of-requires
indication_of-requires c = (client_learnt c.args.message.now c.in-Ok.hello (c.in-Ok.ensures)).extensions.bounded

pub returns : goal.returns
returns c =
    let a = c.args in
    let h = c.in-Ok.hello in
    let w = (c.in-Ok.ensures) in
    server_judged a.table.now a.axle _ a.connection.now a.switches.now a.out.now c.session_of-session.result (sym (axle_good a.axle c.if-axle-lt1.false (omega arith))) (client_learnt a.message.now h w).reading c.session_of-session.ensures
    (plain_same (asked_is a.message.now h _ w c.indication_of.ensures) c.judge.ensures)
