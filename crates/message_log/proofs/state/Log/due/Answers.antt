-- By the place, where nothing is between parts.
-- Assumes nothing.
use Rattle.message_log.proofs.Held.{numbered, unnumbered}
use Rattle.message_log.proofs.Finishing.{parted_undue, unplaced_undue, placed_due}
use Rattle.message_log.proofs.state.Log.due.Goals as goal

pub returns-then-self-ne0 : goal.returns-then-self-ne0
returns-then-self-ne0 c = parted_undue c.args.self (λ e. absurd (c.if-self-ne0.true e))

pub returns-in_err-ok : goal.returns-in_err-ok
returns-in_err-ok c = rw c.from_residual.ensures (unplaced_undue c.args.self (unnumbered _ _ c.in_err-ok.ensures.value c.try_from.ensures))

pub returns : goal.returns
returns c = placed_due c.args.self c.if-self-ne0.false c.in_ok-ok.field-0 (numbered _ _ _ c.in_ok-ok.ensures.value c.try_from.ensures) _ c.due.ensures
