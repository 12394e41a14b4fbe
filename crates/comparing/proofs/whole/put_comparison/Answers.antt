-- The judgement of the first case first.
-- Assumes nothing.
use Rattle.std.proofs.Common.{sym, ◌∙◌, ap, length, arith}
use Rattle.cases.specs.Digits.{ascii}
use Rattle.comparing.specs.Comparison.{first_refused, second_refused}
use Rattle.comparing.proofs.Judging.{first_bad, second_bad, both_good}
use Rattle.comparing.proofs.whole.put_comparison.Goals as goal

pub put-requires : goal.put-requires
unfolding first_refused ascii
put-requires c =
    let e = sym c.is_good.ensures ∙ c.if-not-is_good.true in
    omega (arith, c.requires, ap length (first_bad c.args.first.now c.args.second.now e))

pub returns-then-not-is_good : goal.returns-then-not-is_good
unfolding first_refused ascii
returns-then-not-is_good c =
    let e = sym c.is_good.ensures ∙ c.if-not-is_good.true in
    rw (first_bad c.args.first.now c.args.second.now e) c.put.ensures

pub put-requires-then-not-is_good-2 : goal.put-requires-then-not-is_good-2
unfolding second_refused ascii
put-requires-then-not-is_good-2 c =
    let e = sym c.is_good.ensures ∙ c.if-not-is_good.false in
    let f = sym c.is_good-2.ensures ∙ c.if-not-is_good-2.true in
    omega (arith, c.requires, ap length (second_bad c.args.first.now c.args.second.now e f))

pub returns-then-not-is_good-2 : goal.returns-then-not-is_good-2
unfolding second_refused ascii
returns-then-not-is_good-2 c =
    let e = sym c.is_good.ensures ∙ c.if-not-is_good.false in
    let f = sym c.is_good-2.ensures ∙ c.if-not-is_good-2.true in
    rw (second_bad c.args.first.now c.args.second.now e f) c.put-then-not-is_good-2.ensures

pub put_messages-requires : goal.put_messages-requires
put_messages-requires c =
    let e = sym c.is_good.ensures ∙ c.if-not-is_good.false in
    let f = sym c.is_good-2.ensures ∙ c.if-not-is_good-2.false in
    record { first = e; second = f; room = rw (both_good c.args.first.now c.args.second.now e f) at c.requires }

pub returns : goal.returns
returns c =
    let e = sym c.is_good.ensures ∙ c.if-not-is_good.false in
    let f = sym c.is_good-2.ensures ∙ c.if-not-is_good-2.false in
    rw (both_good c.args.first.now c.args.second.now e f) c.put_messages.ensures
