-- The end of the bodies is summed up: what is left of the lengths makes up the whole.
-- Assumes nothing.
use mathlib.Core.Path.{◌≡◌, sym, ◌∙◌, ap}
use Prim.Native.Nat.{ℕ, ◌+◌}
use lib.Dec.{eqb}
use lib.ListN.{length}
use Rattle.cases.specs.Contents.{contents_size, count_of, lengths_of, total}
use Rattle.cases.proofs.Bodies.{left_more, left_end, left_all}
use Rattle.cases.proofs.Cases.{bad_long, bad_short, good_exact}
use native.Mathlib.Omega.{arith}
use Rattle.cases.proofs.contents.is_good.Goals as goal

pub returns-then-case-gt-LONGEST : goal.returns-then-case-gt-LONGEST
returns-then-case-gt-LONGEST c = sym (bad_long _ (omega arith))

pub returns-then-case-size : goal.returns-then-case-size
unfolding contents_size count_of
returns-then-case-size c = sym (bad_short _ (omega arith))

pub loop-i-preserved : goal.loop-i-preserved
unfolding count_of
loop-i-preserved c =
    let s = c.args.case.now in
    (omega arith, omega (arith, left_more s c.loop-i.i (omega arith)))

pub returns : goal.returns
unfolding contents_size count_of
returns c =
    let s = c.args.case.now in
    let e : c.loop-i.end ≡ contents_size s + total (lengths_of s) = omega (arith, left_end s c.loop-i.i (omega arith), left_all s) in
    ap (λ (n : ℕ). eqb n (length s)) e ∙ sym (good_exact s (omega arith))
