-- The header: each way out is one rule of the definition.
-- Assumes nothing.
use mathlib.Core.Path.{sym}
use native.Mathlib.Omega.{arith}
use Rattle.refusal.specs.Table.{refusal_of}
use Rattle.message.specs.Numbers.{triple_at, byte_at}
use Rattle.message.proofs.Frames.{framed_long, framed_short, framed_other, framed_whole}
use Rattle.message.proofs.header.frame.Goals as goal

pub returns-then-message-gt-LONGEST : goal.returns-then-message-gt-LONGEST
unfolding refusal_of
returns-then-message-gt-LONGEST c = sym (framed_long _ (omega arith))

pub returns-then-message-lt-HEADER : goal.returns-then-message-lt-HEADER
returns-then-message-lt-HEADER c = sym (framed_short _ (omega arith))

pub returns-then-stated-length : goal.returns-then-stated-length
unfolding triple_at
returns-then-stated-length c = sym (framed_other _ (omega arith))

pub returns : goal.returns
unfolding triple_at byte_at
returns c = sym (framed_whole _ (omega arith))
