-- What is asked first refuses; else the value decides.
-- Assumes nothing.
use mathlib.Core.Path.{sym, ◌∙◌}
use Rattle.message_log.proofs.Reasons.{handed_on}
use Rattle.message_log.proofs.Messages.{fine}
use Rattle.message_log.proofs.Finishing.{refused_finishes, differs_finishes, equal_finishes}
use Rattle.message_log.proofs.state.Log.checked.Goals as goal

pub returns-in_err-due : goal.returns-in_err-due
returns-in_err-due c = rw (handed_on _ _ c.from_residual.ensures.1) (record { refused = refused_finishes _ _ _ _ c.in_err-due.ensures; taken = tt })

pub carries-requires : goal.carries-requires
carries-requires c = (fine _ c.in_ok-due.ensures.asked.shape).shortest

pub returns-then-not-carries : goal.returns-then-not-carries
returns-then-not-carries c =
    record {
      refused = differs_finishes _ _ _ c.in_ok-due.due c.in_ok-due.ensures _ c.value-value.ensures (sym c.carries.ensures ∙ c.if-not-carries.true);
      taken = tt;
    }

pub returns : goal.returns
returns c =
    record {
      refused = tt;
      taken = λ left t. equal_finishes _ _ _ c.in_ok-due.due c.in_ok-due.ensures _ c.value-value.ensures (sym c.carries.ensures ∙ c.if-not-carries.false) left t;
    }
