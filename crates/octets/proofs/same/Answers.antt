-- `octets::same` looks at every byte: so far, the strings are the same exactly where the difference is 0.
-- Assumes nothing.
use mathlib.Core.Path.{◌≡◌, sym, ◌∙◌, ap, ap₂}
use mathlib.Core.Logic.{inl, inr}
use Rattle.std.proofs.Common.{arith, length, false, Bool}
use lib.Dec.{eqb}
use Rattle.seqs.specs.Pick.{pick}
use Rattle.octets.specs.Same.{same}
use Rattle.octets.proofs.Difference.{difference_more, same_other_length, same_none, pick_test}
use Rattle.octets.proofs.same.Goals as goal

pub returns-then-a-b : goal.returns-then-a-b
returns-then-a-b c = sym (same_other_length _ _ c.if-a-b.true)

pub loop-x-preserved : goal.loop-x-preserved
unfolding same
loop-x-preserved c =
    let s = c.in-Some.ensures.steps in (
      omega (arith, c.loop-x.invariant.0, ap length s.0, ap length s.1),
      c.loop-x.invariant.1
          ∙ ap (λ (t : Bool). pick (eqb c.loop-x.difference 0) t false) (ap₂ same s.0 s.1)
          ∙ difference_more c.loop-x.difference c.in-Some.x.now c.in-Some.y.now (same c.next.new.self.a.rest.now c.next.new.self.b.rest.now),
    )

pub returns : goal.returns
returns c =
    let none : length c.loop-x.x-iterator.a.rest.now ≡ 0 = elim c.in-None.ensures.steps [ inl e ↦ e.1.0 | inr e ↦ c.loop-x.invariant.0 ∙ e.1.0 ] in
    sym
    (c.loop-x.invariant.1
    ∙ ap (λ (t : Bool). pick (eqb c.loop-x.difference 0) t false) (same_none _ _ none (sym c.loop-x.invariant.0 ∙ none))
    ∙ pick_test (eqb c.loop-x.difference 0))
