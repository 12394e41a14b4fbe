-- The header of a message of one type: longer than the longest, of another type, or as every header.
-- Assumes nothing.
use mathlib.Core.Path.{sym, ◌∙◌}
use native.Mathlib.Omega.{arith}
use Rattle.refusal.specs.Table.{refusal_of}
use Rattle.message.proofs.Frames.{as_long, as_other, as_framed}
use Rattle.message.proofs.header.frame_as.Goals as goal

pub returns-then-message-gt-LONGEST : goal.returns-then-message-gt-LONGEST
unfolding refusal_of
returns-then-message-gt-LONGEST c = sym (as_long _ _ c.if-message-gt-LONGEST.true)

pub returns-then-byte-kind : goal.returns-then-byte-kind
returns-then-byte-kind c =
    sym (as_other _ _ (omega arith) (λ z. c.if-byte-kind.true (c.byte.ensures.0 ∙ z)))

pub returns : goal.returns
returns c =
    c.frame.ensures ∙ as_framed _ _ (sym c.byte.ensures.0 ∙ c.if-byte-kind.false)
