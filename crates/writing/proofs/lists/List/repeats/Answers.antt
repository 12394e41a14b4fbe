-- A type that stands twice: each type is looked for in what follows it.
-- Assumes nothing.
use Rattle.std.proofs.Common.{sym, ◌∙◌}
use Rattle.writing.proofs.Walking.{among_any, repeats_here, repeats_later, repeats_end}
use Rattle.writing.proofs.lists.List.repeats.Goals as goal

pub all-preserved : goal.all-preserved
all-preserved c =
    record {
      none = c.all.invariant.none;
      left = sym (repeats_later _ _ _ c.in-Some.ensures.cases.0 (sym (c.contains.ensures.value ∙ among_any _ _) ∙ c.if-contains.false)) ∙ c.all.invariant.left;
    }

pub returns-then-contains : goal.returns-then-contains
returns-then-contains c =
    sym (sym c.all.invariant.left ∙ repeats_here _ _ _ c.in-Some.ensures.cases.0 (sym (c.contains.ensures.value ∙ among_any _ _) ∙ c.if-contains.true))

pub returns-in_default : goal.returns-in_default
returns-in_default c =
    c.all.invariant.none ∙ sym (sym c.all.invariant.left ∙ repeats_end _ c.in_default.ensures.cases)
