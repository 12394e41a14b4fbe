-- The judgement of a message by itself: its header, then its body.
-- Assumes nothing.
use mathlib.Core.Path.{sym}
use Rattle.message_log.proofs.Reasons.{handed_on}
use Rattle.message_log.proofs.Messages.{judge_refused, judge_right, judge_wrong}
use Rattle.message_log.proofs.shape.judge.Goals as goal

pub returns-in_err-header : goal.returns-in_err-header
returns-in_err-header c = rw (handed_on _ _ c.from_residual.ensures.1) (judge_refused _ _ (sym c.in_err-header.ensures))

pub returns-then-not-fits : goal.returns-then-not-fits
returns-then-not-fits c = judge_wrong _ c.in_ok-header.header (sym c.in_ok-header.ensures) _ c.fits.ensures c.if-not-fits.true

pub returns : goal.returns
returns c = judge_right _ c.in_ok-header.header (sym c.in_ok-header.ensures) _ c.fits.ensures c.if-not-fits.false
