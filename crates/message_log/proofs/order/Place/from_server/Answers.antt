-- By the place.
-- Assumes nothing.
use Rattle.message_log.proofs.Held.{server_by, client_by}
use Rattle.message_log.proofs.order.Place.from_server.Goals as goal

pub returns-in-ClientFirst : goal.returns-in-ClientFirst
returns-in-ClientFirst c h s = server_by c.args.self h s c.in-ClientFirst.is

pub returns-in_default : goal.returns-in_default
returns-in_default c h s = client_by c.args.self h s c.in_default.not-ClientFirst c.in_default.not-ResumingHello
