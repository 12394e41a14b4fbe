-- The number stored, unless the axle is refused.
-- Assumes nothing.
use Rattle.std.proofs.Common.{◌∙◌, ap, arith}
use Rattle.refusal.specs.Reason.{refusal_for}
use Rattle.sessions.proofs.Kept.{placed_ok, placed_err, counts_name, counts_done}
use Rattle.sessions.proofs.Queues.{held_own}
use Rattle.sessions.proofs.table.Table.held.Goals as goal

pub returns-in-Err : goal.returns-in-Err
returns-in-Err c =
    let a = c.args in
    let e = placed_err a.axle c.in-Err.reason c.in-Err.ensures.value in
    counts_name a.self a.axle c.from.result e.1 (c.from.ensures ∙ ap refusal_for e.0)

pub returns : goal.returns
returns c =
    let a = c.args in
    let own = c.in-Ok.own in
    let g = placed_ok a.axle own c.in-Ok.ensures.value in
    let h = held_own a.self a.axle own g.is c.queue-held.result c.queue-held.ensures in
    counts_done a.self a.axle c.refuse.result c.min-count.result own g c.refuse.ensures (λ m. omega (arith, c.min-count.ensures, h, m))
