-- The lent lists fit each other.
-- Assumes nothing.
use Rattle.std.proofs.Common.{◌≤◌, get_or, sym, ◌∙◌, arith}
use borrow.Author.Tests.{eq-eqb, ne_eqb}
use Rattle.writing.proofs.Walking.{total_step, total_end, fits_not_count, fits_not_sum, fits_left}
use Rattle.writing.proofs.lists.List.new.Goals as goal

pub returns-then-types-lengths : goal.returns-then-types-lengths
returns-then-types-lengths c = sym (fits_not_count _ _ _ c.if-types-lengths.true)

pub returns-in_err-left : goal.returns-in_err-left
returns-in_err-left c =
    let a = c.args in
    let n : get_or a.lengths.now c.loop-length.length-index 0 ≤ c.loop-length.left → ⊥ = c.in_err-left.ensures in
    rw c.from_residual.ensures
    (sym (fits_not_sum a.types.now a.lengths.now a.«data».now c.if-types-lengths.false (λ e. n (omega (arith, total_step a.lengths.now c.loop-length.length-index (omega arith))))))

pub loop-length-preserved : goal.loop-length-preserved
loop-length-preserved c =
    omega (arith, total_step c.args.lengths.now c.loop-length.length-index (omega arith), c.in_ok-left.ensures.0, c.in_ok-left.ensures.1)

pub returns-then-left-ne0 : goal.returns-then-left-ne0
returns-then-left-ne0 c =
    let a = c.args in
    sym (fits_left a.types.now a.lengths.now a.«data».now c.if-types-lengths.false c.loop-length.left (omega (arith, total_end a.lengths.now c.loop-length.length-index (omega arith)))) ∙ ne_eqb c.loop-length.left 0 c.if-left-ne0.true

pub invariant_of-result : goal.invariant_of-result
invariant_of-result c =
    let a = c.args in
    record { fits = sym (fits_left a.types.now a.lengths.now a.«data».now c.if-types-lengths.false c.loop-length.left (omega (arith, total_end a.lengths.now c.loop-length.length-index (omega arith)))) ∙ eq-eqb c.loop-length.left 0 c.if-left-ne0.false }
