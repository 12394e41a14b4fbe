-- The next extension, from what is left of lists that fit.
-- Assumes nothing.
use Rattle.std.proofs.Common.{◌∙◌, ap, length, arith}
use Rattle.writing.proofs.Walking.{fitting_counts, First, first_of_list, no_list}
use Rattle.writing.proofs.lists.ListIterator.next.Goals as goal
use Rattle.writing.proofs.lists.ListIterator.next.Goals.{In_ok-length}

took : (c : In_ok-length) → (let s = c.args.self.now in First s.types.now s.lengths.now s.«data».now c.in_ok-kind.kind.now c.in_ok-length.length.now c.in_ok-kind.types.now c.in_ok-length.lengths.now)
took c = first_of_list _ _ _ _ _ _ _ c.in_ok-kind.ensures.cases.0 c.in_ok-length.ensures.cases.0 c.args.self.now.fits

pub returns-in_err-kind-clause-steps : goal.returns-in_err-kind-clause-steps
returns-in_err-kind-clause-steps c =
    let s = c.args.self.now in
    let n = no_list s.types.now s.lengths.now s.«data».now c.in_err-kind.ensures.cases in
    rw c.from_residual.ensures (n, n)

pub returns-in_err-length-clause-steps : goal.returns-in_err-length-clause-steps
returns-in_err-length-clause-steps c =
    let s = c.args.self.now in
    let n = no_list s.types.now s.lengths.now s.«data».now (fitting_counts s.types.now s.lengths.now s.«data».now s.fits ∙ c.in_err-length.ensures.cases) in
    rw c.from_residual-in_err-length.ensures (n, n)

pub split_at-requires : goal.split_at-requires
split_at-requires c = (took (goal.at.split_at-requires c).In_ok-length).room

pub invariant_of-self : goal.invariant_of-self
invariant_of-self c = record { fits = rw c.split_at.ensures.back (took (goal.at.invariant_of-self c).In_ok-length).fits }

pub returns-clause-steps : goal.returns-clause-steps
returns-clause-steps c = rw (c.split_at.ensures.front, c.split_at.ensures.back) (took (goal.at.returns-clause-steps c).In_ok-length).list

pub returns-clause-goes : goal.returns-clause-goes
returns-clause-goes c =
    let l = ap length (took (goal.at.returns-clause-goes c).In_ok-length).list in
    let b = c.split_at.ensures.back in
    record { on = λ f. (tt, tt, rw b (omega (arith, l))); keeps = tt; rests = λ f. tt }
