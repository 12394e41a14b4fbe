-- What is asked first refuses; a HelloRequest leaves the log as it was; of any other the bytes that are let in enter.
-- Assumes nothing.
use Rattle.message_log.proofs.Reasons.{handed_on}
use Rattle.message_log.proofs.Feeding.{refused_feeds, request_feeds, done_feeds}
use Rattle.message_log.proofs.state.Log.try_feed.Goals as goal

pub returns-in_err-turn : goal.returns-in_err-turn
returns-in_err-turn c = rw (handed_on _ _ c.from_residual.ensures.1) (refused_feeds _ _ _ _ _ c.in_err-turn.ensures)

pub returns : goal.returns
returns c = done_feeds _ _ _ _ c.in-Some.turn (rw c.in-Some.is at c.in_ok-turn.ensures) _ _ _ c.lets_in-n.ensures.0 c.lets_in-n.ensures.1 c.entered-blocks.ensures

pub returns-in_default : goal.returns-in_default
returns-in_default c = request_feeds _ _ _ _ (rw c.in_default.is at c.in_ok-turn.ensures)
