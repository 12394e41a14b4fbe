-- A Finished is in turn where it leads somewhere.
-- Assumes nothing.
use Rattle.message_log.proofs.Held.{due_by, undue_by}
use Rattle.message_log.proofs.order.Place.due.Goals as goal

pub returns-in_err-next : goal.returns-in_err-next
returns-in_err-next c h s = rw c.from_residual.ensures (undue_by c.args.self h s c.in_err-next.ensures)

pub returns : goal.returns
returns c h s = due_by c.args.self h s c.in_ok-next.next _ c.in_ok-next.ensures (c.from_server-server.ensures h s)
