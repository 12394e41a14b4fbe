-- The next extension, from what is left of a list that is well formed.
-- Assumes nothing.
use Rattle.std.proofs.Common.{sym, ◌∙◌, ap, length, arith}
use Rattle.hello.proofs.Entries.{ok_some, ok_none, Taken, taken, none_left}
use Rattle.hello.proofs.list.ListIterator.next.Goals as goal
use Rattle.hello.proofs.list.ListIterator.next.Goals.{In_ok-first}

-- what was taken
took : (c : In_ok-first) → Taken c.args.self.now.message.now c.args.self.now.at c.args.self.now.well_formed c.in_ok-first.first
took c = taken _ _ _ _ (sym c.read_entry.ensures.value ∙ ok_some c.read_entry.result _ (sym c.ok.ensures.value ∙ c.in_ok-first.was))

pub returns-in_err-first-clause-steps : goal.returns-in_err-first-clause-steps
returns-in_err-first-clause-steps c =
    let s = c.args.self.now in
    let n = ok_none c.read_entry.result (sym c.ok.ensures.value ∙ c.in_err-first.was) in
    let e = none_left s.message.now s.at s.well_formed n.0 s.within (sym c.read_entry.ensures.value ∙ n.1) in
    rw c.from_residual.ensures (e, e)

pub end-self-requires : goal.end-self-requires
end-self-requires c = omega (arith, (took (goal.at.end-self-requires c).In_ok-first).within)

pub invariant_of-self : goal.invariant_of-self
invariant_of-self c =
    let t = took (goal.at.invariant_of-self c).In_ok-first in
    record { within = rw c.end-self.ensures t.within; well_formed = rw c.end-self.ensures t.whole }

pub returns-clause-steps : goal.returns-clause-steps
returns-clause-steps c = rw c.end-self.ensures (took (goal.at.returns-clause-steps c).In_ok-first).rest

pub returns-clause-goes : goal.returns-clause-goes
returns-clause-goes c =
    let t = took (goal.at.returns-clause-goes c).In_ok-first in
    let m = c.args.self.now.message.now in
    let l = ap length t.rest in
    let e = c.end-self.ensures in
    record { on = λ f. (tt, tt, rw e (omega (arith, l))); keeps = tt; rests = λ f. tt }
