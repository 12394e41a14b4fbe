-- The session found; its secret goes to the front of the output, or nothing does.
-- Assumes nothing.
use Rattle.std.proofs.Common.{◌∙◌, ap}
use Rattle.std.proofs.lemmas.Result.{err_from_is_err_and}
use Rattle.sessions.specs.Book.{sought}
use Rattle.sessions.proofs.Kept.{named_ok, named_err, looks_name, looks_none, looks_short, looks_found}
use Rattle.sessions.proofs.Queues.{sessions_own}
use Rattle.sessions.proofs.table.Table.hand_out.Goals as goal

pub returns-in_err-own : goal.returns-in_err-own
returns-in_err-own c =
    let a = c.args in
    let p = err_from_is_err_and c.from_residual.result c.from_residual.ensures.1 in
    let e = named_err a.axle a.identifier.now c.in_err-own.field-0.0 c.in_err-own.ensures.value in
    rw (p.1, p.2, e.0) (looks_name a.self.now a.axle a.identifier.now a.out.now e.1)

pub returns-in_default : goal.returns-in_default
returns-in_default c =
    let a = c.args in
    let g = named_ok a.axle a.identifier.now c.in_ok-own.own c.in_ok-own.ensures.value in
    let q = ap (sought a.axle a.identifier.now) (sessions_own a.self.now a.axle c.in_ok-own.own g.is c.queue-queue.result c.queue-queue.ensures) in
    looks_none a.self.now a.axle a.identifier.now a.out.now g.good (c.in_default.ensures a.axle ∙ q)

pub returns-in_err-put : goal.returns-in_err-put
returns-in_err-put c =
    let a = c.args in
    let g = named_ok a.axle a.identifier.now c.in_ok-own.own c.in_ok-own.ensures.value in
    let q = ap (sought a.axle a.identifier.now) (sessions_own a.self.now a.axle c.in_ok-own.own g.is c.queue-queue.result c.queue-queue.ensures) in
    let p = err_from_is_err_and c.from_residual-in_err-put.result c.from_residual-in_err-put.ensures.1 in
    rw (p.1, p.2)
    (looks_short a.self.now a.axle a.identifier.now a.out.now g.good c.in-Some.row.now c.put.new.out (c.in-Some.ensures a.axle ∙ q) c.put.ensures.1 c.in_err-put.field-0.0 c.in_err-put.ensures.0)

pub returns : goal.returns
returns c =
    let a = c.args in
    let g = named_ok a.axle a.identifier.now c.in_ok-own.own c.in_ok-own.ensures.value in
    let q = ap (sought a.axle a.identifier.now) (sessions_own a.self.now a.axle c.in_ok-own.own g.is c.queue-queue.result c.queue-queue.ensures) in
    looks_found a.self.now a.axle a.identifier.now a.out.now g.good c.in-Some.row.now c.put.new.out (c.in-Some.ensures a.axle ∙ q) c.put.ensures.1 c.weighed.result (c.weighed.ensures a.axle) c.in_ok-put.ensures.0
