-- Refused by its number, or the first 48 bytes of the output.
-- Assumes nothing.
use Rattle.std.proofs.Common.{sym, ap, length, drop, ◌++◌, List, ℕ, arith, rules, ◌≤◌, length-take-le}
use Rattle.prf.proofs.Numbers.{secret_within}
use Rattle.prf.proofs.Answers.{derived, underived}
use Rattle.prf.proofs.secrets.derive.Goals as goal

pub returns-in_err-lengths : goal.returns-in_err-lengths
returns-in_err-lengths g c = underived _ c.args.out.now c.in_err-lengths.ensures.0 (search rules)

pub slice_bounds-expand-end-2 : goal.slice_bounds-expand-end-2
slice_bounds-expand-end-2 g c =
    sym (length-take-le _ c.args.out.now (omega (arith, secret_within _ _ _ _ c.in_ok-lengths.ensures)))

pub returns : goal.returns
returns g c =
    let a = c.args in
    let long : 48 ≤ length a.out.now = omega (arith, secret_within _ _ _ _ c.in_ok-lengths.ensures) in
    derived _ a.out.now {exit = c.expand.new.out ++ drop 48 a.out.now} c.in_ok-lengths.ensures
    (ap (λ (r : List ℕ). r ++ drop 48 a.out.now) (rw (length-take-le 48 a.out.now long) at (c.expand.ensures a.pre_master.now c.by-keyed.ensures)))
