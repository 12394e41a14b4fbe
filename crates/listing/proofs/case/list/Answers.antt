-- A good case has its lines, a bad one is refused.
-- Assumes nothing.
use Rattle.std.proofs.Common.{◌≡◌, ◌≤◌, ◌+◌, length, true, false, arith, sym, ◌∙◌}
use Rattle.cases.specs.Contents.{good_case}
use Rattle.cases.specs.Digits.{ascii}
use Rattle.listing.specs.Texts.{header, refused}
use Rattle.listing.specs.Listing.{listing}
use Rattle.listing.proofs.case.list.Goals as goal

pub returns-then-is_good-clause-text : goal.returns-then-is_good-clause-text
unfolding listing
returns-then-is_good-clause-text c =
    let e : good_case c.args.case.now ≡ true = sym c.is_good.ensures ∙ c.if-is_good.true in
    rw e c.lines.ensures.text

pub returns-clause-text : goal.returns-clause-text
unfolding listing header refused ascii
returns-clause-text c =
    let e : good_case c.args.case.now ≡ false = sym c.is_good.ensures ∙ c.if-is_good.false in
    let fit : length c.headed-text.result + 17 ≤ 4103 = rw c.headed-text.ensures (omega arith) in
    rw (e, c.push.ensures.fits fit, c.headed-text.ensures)

pub returns-clause-within : goal.returns-clause-within
unfolding header ascii
returns-clause-within c =
    let fit : length c.headed-text.result + 17 ≤ 4103 = rw c.headed-text.ensures (omega arith) in
    rw (c.push.ensures.fits fit, c.headed-text.ensures) (omega arith)
