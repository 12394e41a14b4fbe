-- A message that is not in turn leaves the log as it was, and so does a HelloRequest; any other is taken.
-- Assumes nothing.
use Rattle.message_log.proofs.Reasons.{handed_on}
use Rattle.message_log.proofs.Accepting.{refused_accepts, request_accepts, done_accepts}
use Rattle.message_log.proofs.state.Log.try_accept.Goals as goal

pub returns-in_err-turn : goal.returns-in_err-turn
returns-in_err-turn c = rw (handed_on _ _ c.from_residual.ensures.1) (refused_accepts _ _ _ _ c.in_err-turn.ensures)

pub returns-in-Some : goal.returns-in-Some
returns-in-Some c = done_accepts _ _ _ c.in-Some.turn (rw c.in-Some.is at c.in_ok-turn.ensures) _ _ c.entered.ensures

pub returns-in_default : goal.returns-in_default
returns-in_default c = request_accepts _ _ _ (rw c.in_default.is at c.in_ok-turn.ensures)
