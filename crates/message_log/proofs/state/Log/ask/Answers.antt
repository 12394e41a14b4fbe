-- Each way out is a refusal, or a Finished that is due.
-- Assumes nothing.
use Rattle.message_log.proofs.Reasons.{handed_on}
use Rattle.message_log.proofs.Finishing.{secret_asks, shape_asks, kind_asks, due_or_not}
use Rattle.message_log.proofs.state.Log.ask.Goals as goal

pub returns-then-secret-ne-SECRET : goal.returns-then-secret-ne-SECRET
returns-then-secret-ne-SECRET c = secret_asks _ _ _ c.if-secret-ne-SECRET.true

pub returns-in_err-kind : goal.returns-in_err-kind
returns-in_err-kind c = rw (handed_on _ _ c.from_residual.ensures.1) (shape_asks _ _ _ c.if-secret-ne-SECRET.false _ c.in_err-kind.ensures)

pub returns-then-kind-ne-FINISHED : goal.returns-then-kind-ne-FINISHED
returns-then-kind-ne-FINISHED c = kind_asks _ _ _ c.if-secret-ne-SECRET.false _ c.in_ok-kind.ensures c.if-kind-ne-FINISHED.true

pub returns : goal.returns
returns c =
    rw c.ok_or.ensures.value (due_or_not _ _ _ c.if-secret-ne-SECRET.false _ c.in_ok-kind.ensures c.if-kind-ne-FINISHED.false _ c.due.ensures)
