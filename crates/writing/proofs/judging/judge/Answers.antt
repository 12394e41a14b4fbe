-- Why a message is refused: each way out is one test of the definition.
-- Assumes nothing.
use Rattle.std.proofs.Common.{refl, sym, ◌∙◌}
use borrow.Author.Tests.{lt-ltb, le-ltb}
use Rattle.writing.specs.Steps.{judged}
use Rattle.writing.proofs.judging.judge.Goals as goal

pub returns-then-is_misshaped : goal.returns-then-is_misshaped
unfolding judged
returns-then-is_misshaped c = rw (sym c.is_misshaped.ensures ∙ c.if-is_misshaped.true) refl

pub returns-then-repeats : goal.returns-then-repeats
unfolding judged
returns-then-repeats c = rw (sym c.is_misshaped.ensures ∙ c.if-is_misshaped.false, sym c.repeats.ensures ∙ c.if-repeats.true) refl

pub returns-then-wrong_version : goal.returns-then-wrong_version
unfolding judged
returns-then-wrong_version c = rw (sym c.is_misshaped.ensures ∙ c.if-is_misshaped.false, sym c.repeats.ensures ∙ c.if-repeats.false, c.if-wrong_version.true) refl

pub returns-then-room-size : goal.returns-then-room-size
unfolding judged
returns-then-room-size c =
    rw (sym c.is_misshaped.ensures ∙ c.if-is_misshaped.false, sym c.repeats.ensures ∙ c.if-repeats.false, c.if-wrong_version.false, lt-ltb c.args.room c.args.size c.if-room-size.true) refl

pub returns : goal.returns
unfolding judged
returns c =
    rw (sym c.is_misshaped.ensures ∙ c.if-is_misshaped.false, sym c.repeats.ensures ∙ c.if-repeats.false, c.if-wrong_version.false, le-ltb c.args.room c.args.size c.if-room-size.false) refl
