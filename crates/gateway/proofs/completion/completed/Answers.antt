-- Completion goes by its tests, as `complete_number` does.
-- Assumes nothing.
use mathlib.Core.Path.{sym, ◌∙◌}
use mathlib.Core.Logic.{inl, inr}
use Rattle.refusal.specs.Table.{refusal_of}
use Rattle.gateway.proofs.Completing.{byte_bit, alike, unlike, incomplete, undecided, disagreeing, agreeing}
use Rattle.gateway.proofs.completion.completed.Goals as goal

pub returns-then-finished-eq0 : goal.returns-then-finished-eq0
unfolding refusal_of
returns-then-finished-eq0 c was =
    elim c.then-finished-eq0.either [
      | inl e ↦ incomplete was c.args.finished c.args.decision e
      | inr e ↦ undecided was c.args.finished c.args.decision e.0 e.1
    ]

pub returns-then-resumed-resumes : goal.returns-then-resumed-resumes
unfolding refusal_of
returns-then-resumed-resumes c was =
    disagreeing was c.args.finished c.args.decision c.if-finished-eq0.false c.if-decision-ne0.false (unlike _ _ c.if-resumed-resumes.true)

pub returns : goal.returns
returns c was =
    rw (c.from.ensures ∙ byte_bit _, c.from-2.ensures ∙ byte_bit _)
    (agreeing was c.args.finished c.args.decision c.if-finished-eq0.false c.if-decision-ne0.false (alike _ _ c.if-resumed-resumes.false))
