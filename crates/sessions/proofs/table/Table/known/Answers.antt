-- What is weighed of the session found.
-- Assumes nothing.
use Rattle.std.proofs.Common.{◌∙◌, ap}
use Rattle.sessions.specs.Book.{sought}
use Rattle.sessions.proofs.Kept.{named_ok, named_err, knows_name, knows_none, knows_found}
use Rattle.sessions.proofs.Queues.{sessions_own}
use Rattle.sessions.proofs.table.Table.known.Goals as goal

pub returns-in_default : goal.returns-in_default
returns-in_default c =
    let a = c.args in
    knows_name a.self.now a.axle a.identifier.now (named_err a.axle a.identifier.now c.in_default.field-0 c.in_default.ensures.value).1

pub returns-in_err-row : goal.returns-in_err-row
returns-in_err-row c =
    let a = c.args in
    let g = named_ok a.axle a.identifier.now c.in-Ok.own c.in-Ok.ensures.value in
    let q = ap (sought a.axle a.identifier.now) (sessions_own a.self.now a.axle c.in-Ok.own g.is c.queue-queue.result c.queue-queue.ensures) in
    rw c.from_residual.ensures (knows_none a.self.now a.axle a.identifier.now g.good (c.in_err-row.ensures a.axle ∙ q))

pub returns : goal.returns
returns c =
    let a = c.args in
    let g = named_ok a.axle a.identifier.now c.in-Ok.own c.in-Ok.ensures.value in
    let q = ap (sought a.axle a.identifier.now) (sessions_own a.self.now a.axle c.in-Ok.own g.is c.queue-queue.result c.queue-queue.ensures) in
    knows_found a.self.now a.axle a.identifier.now g.good c.in_ok-row.row.now c.weighed.result (c.in_ok-row.ensures a.axle ∙ q) (c.weighed.ensures a.axle)
