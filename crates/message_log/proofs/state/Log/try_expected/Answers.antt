-- The two refusals, and what is expected.
-- Assumes nothing.
use Rattle.message_log.proofs.Reasons.{handed_on, nothing_there}
use Rattle.message_log.proofs.Finishing.{secret_expects, due_expects, done_expects}
use Rattle.message_log.proofs.state.Log.try_expected.Goals as goal

pub returns-then-secret-ne-SECRET : goal.returns-then-secret-ne-SECRET
returns-then-secret-ne-SECRET c = secret_expects _ _ c.if-secret-ne-SECRET.true

pub returns-in_err-due : goal.returns-in_err-due
returns-in_err-due c =
    let n = nothing_there c.due.result _ _ c.in_err-due.ensures.value in
    rw (handed_on _ _ c.from_residual.ensures.1, n.1) (due_expects _ _ c.if-secret-ne-SECRET.false (λ s st. rw n.0 at c.due.ensures s st))

pub returns : goal.returns
returns c =
    done_expects _ _ c.if-secret-ne-SECRET.false c.in_ok-due.due (λ s st. rw c.in_ok-due.ensures.ok_part at c.due.ensures s st) _ c.value.ensures
