-- The first byte says which call.
-- Assumes nothing.
use Rattle.script.proofs.Laws.{call_store, call_look_up, call_withdraw, call_held, call_clear}
use Rattle.script.proofs.call.read_call.Goals as goal

pub returns-in-0-clause-call : goal.returns-in-0-clause-call
returns-in-0-clause-call c = rw (call_store c.args.entry.now c.in-0.is, c.identifier_in-identifier.ensures, c.lent_in-lent.ensures.value, c.suite_in.ensures)

pub returns-in-1-clause-call : goal.returns-in-1-clause-call
returns-in-1-clause-call c = rw (call_look_up c.args.entry.now c.in-1.is, c.identifier_in-identifier.ensures, c.lent_in-lent.ensures.value)

pub returns-in-2-clause-call : goal.returns-in-2-clause-call
returns-in-2-clause-call c = rw (call_withdraw c.args.entry.now c.in-2.is, c.identifier_in-identifier.ensures)

pub returns-in-3-clause-call : goal.returns-in-3-clause-call
returns-in-3-clause-call c = rw (call_held c.args.entry.now c.in-3.is)

pub returns-in_default-clause-call : goal.returns-in_default-clause-call
returns-in_default-clause-call c =
    let r = c.in_default.in_default-own.rest in
    rw (call_clear c.args.entry.now r.0.0.0.1 r.0.0.1 r.0.1 r.1)
