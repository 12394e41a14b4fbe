-- The text at the front of the output, which has room for the longest.
-- Assumes nothing.
use Rattle.std.proofs.Common.{length, ap, arith, Ok, zero-add, ◌∙◌}
use Rattle.std.proofs.lemmas.Grind.{common_steps}
use Rattle.octets.proofs.Placing.{placed_front}
use borrow.Author.Tests.{lt-ltb, le-ltb}
use Rattle.comparing.specs.Comparison.{comparison}
use Rattle.comparing.specs.Longest.{longest}
use Rattle.comparing.specs.Promise.{too_short}
use Rattle.comparing.proofs.Longest.{fits}
use Rattle.comparing.proofs.whole.compare.Goals as goal

pub returns-then-out-lt-LONGEST : goal.returns-then-out-lt-LONGEST
unfolding too_short
returns-then-out-lt-LONGEST c =
    let e = lt-ltb _ _ c.if-out-lt-LONGEST.true in
    record { answer = rw e; output = rw e; fits = tt }

pub put_comparison-requires : goal.put_comparison-requires
put_comparison-requires c =
    let f = fits c.args.first.now c.args.second.now (λ i. omega (arith, c.type_inv.first i)) (λ i. omega (arith, c.type_inv.second i)) in
    omega (arith, f)

pub returns : goal.returns
unfolding too_short
returns c =
    let a = c.args.first.now in
    let b = c.args.second.now in
    let f = fits a b (λ i. omega (arith, c.type_inv.first i)) (λ i. omega (arith, c.type_inv.second i)) in
    let e = le-ltb (length c.args.out.now) longest (omega arith) in
    let p = c.put_comparison.ensures in
    record {
      answer = rw e (ap Ok (p.place ∙ zero-add _));
      output = rw e (let q = p.out ∙ placed_front c.args.out.now (comparison a b) in grind (arith, common_steps));
      fits = omega (arith, p.place, f);
    }
