-- The messages one after the other.
-- Assumes nothing.
use Rattle.std.proofs.Common.{◌≡◌, ◌≤◌, length, ◌+◌, ◌*◌, ◌-◌, ◌<◌, ℕ, arith, length-append}
use Rattle.message.specs.Numbers.{pair_at}
use Rattle.cases.specs.Contents.{contents_size, count_of}
use Rattle.cases.specs.Digits.{ascii}
use Rattle.listing.specs.Texts.{header}
use Rattle.cases.proofs.Bodies.{left_more, left_all}
use Rattle.cases.proofs.Cases.{good_learnt}
use Rattle.listing.proofs.Going.{going_none, going_more, going_all}
use Rattle.listing.proofs.case.lines.Goals as goal

pub loop-i-init : goal.loop-i-init
unfolding contents_size count_of header ascii
loop-i-init c =
    let s = c.args.case.now in
    let g = good_learnt s c.requires in
    let e : contents_size s ≡ 1 + 2 * c.byte-count.result = omega arith in
    record {
      room = rw c.headed-text.ensures (omega arith);
      fills = omega (arith, g.exact, left_all s);
      going = rw (← e) (going_none s _ _ c.headed-text.ensures c.fresh-log.ensures);
    }

pub slice_bounds-feed-end : goal.slice_bounds-feed-end
unfolding count_of
slice_bounds-feed-end c = omega (arith, left_more c.args.case.now c.loop-i.i (omega arith))

pub loop-i-preserved : goal.loop-i-preserved
unfolding count_of
loop-i-preserved c =
    let s = c.args.case.now in
    let i = c.loop-i.i in
    let at = c.loop-i.at in
    let h : i < count_of s = omega arith in
    let p : c.pair.result ≡ pair_at s (1 + 2 * i) = c.pair.ensures.0 in
    let e : at + c.pair.result - at ≡ pair_at s (1 + 2 * i) = omega arith in
    let m = left_more s i h in
    let fit : length c.loop-i.text + length c.as_slice.result.now ≤ 4103 = rw c.as_slice.ensures.value (omega (arith, c.feed-line.ensures.short, c.loop-i.invariant.room)) in
    record {
      room = rw (c.push.ensures.fits fit, c.as_slice.ensures.value) (omega (arith, length-append {A = ℕ}, c.feed-line.ensures.short));
      fills = omega arith;
      going = rw (c.push.ensures.fits fit, c.as_slice.ensures.value, p) (going_more s i at _ _ _ _ c.loop-i.invariant.going h (rw e at c.feed-line.ensures));
    }

pub returns-clause-text : goal.returns-clause-text
unfolding count_of
returns-clause-text c = going_all _ _ c.loop-i.at _ c.loop-i.log c.loop-i.invariant.going (omega arith)
