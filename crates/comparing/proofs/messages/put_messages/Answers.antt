-- Pair by pair, and then those that one case has alone.
-- Assumes nothing.
use Rattle.std.proofs.Common.{◌≡◌, ◌+◌, ◌*◌, ◌-◌, ◌<◌, drop, sym, arith}
use lib.ListN.{length-take}
use Rattle.cases.specs.Contents.{count_of, contents_size}
use Rattle.cases.specs.Digits.{ascii}
use Rattle.cases.proofs.Bodies.{size_at, body_at, left_more, left_all}
use Rattle.cases.proofs.Cases.{good_learnt}
use Rattle.comparing.specs.Differences.{message_differences}
use Rattle.comparing.specs.Comparison.{text}
use Rattle.comparing.specs.Steps.{lines_from}
use Rattle.comparing.proofs.Least.{least_of}
use Rattle.comparing.proofs.Putting.{writing_all, writing_room, writing_more, writing_done}
use Rattle.comparing.proofs.Pairs.{pairs_text, pairs_all, pairs_more, pairs_done}
use Rattle.comparing.proofs.messages.put_messages.Goals as goal

pub loop-i-init : goal.loop-i-init
unfolding contents_size count_of
loop-i-init c =
    let a = c.args.a.now in
    let b = c.args.b.now in
    let e : contents_size a ≡ 1 + 2 * c.byte-first.result = omega arith in
    let f : contents_size b ≡ 1 + 2 * c.byte-second.result = omega arith in
    record {
      first = omega (arith, (good_learnt a c.requires.first).exact, left_all a);
      second = omega (arith, (good_learnt b c.requires.second).exact, left_all b);
      writing = rw (sym e, sym f, pairs_all a b) (writing_all _ _ c.requires.room);
    }

pub overflow_add-p_end : goal.overflow_add-p_end
unfolding count_of
overflow_add-p_end c =
    let k = least_of c.byte-first.result c.byte-second.result c.min-both.result c.min-both.ensures in
    omega (arith, left_more c.args.a.now c.loop-i.i (omega arith))

pub overflow_add-q_end : goal.overflow_add-q_end
unfolding count_of
overflow_add-q_end c =
    let k = least_of c.byte-first.result c.byte-second.result c.min-both.result c.min-both.ensures in
    omega (arith, left_more c.args.b.now c.loop-i.i (omega arith))

pub slice_bounds-put_message-end : goal.slice_bounds-put_message-end
unfolding count_of
slice_bounds-put_message-end c =
    let k = least_of c.byte-first.result c.byte-second.result c.min-both.result c.min-both.ensures in
    omega (arith, left_more c.args.a.now c.loop-i.i (omega arith))

pub slice_bounds-put_message-end-in-loop-i : goal.slice_bounds-put_message-end-in-loop-i
unfolding count_of
slice_bounds-put_message-end-in-loop-i c =
    let k = least_of c.byte-first.result c.byte-second.result c.min-both.result c.min-both.ensures in
    omega (arith, left_more c.args.b.now c.loop-i.i (omega arith))

pub put_message-requires : goal.put_message-requires
unfolding count_of
put_message-requires c =
    let a = c.args.a.now in
    let b = c.args.b.now in
    let i = c.loop-i.i in
    let l = least_of c.byte-first.result c.byte-second.result c.min-both.result c.min-both.ensures in
    let h : i < count_of a = omega arith in
    let k : i < count_of b = omega arith in
    let x : c.loop-i.p + c.pair.result - c.loop-i.p ≡ size_at a i = omega (arith, c.pair.ensures.0) in
    let y : c.loop-i.q + c.pair-in-loop-i.result - c.loop-i.q ≡ size_at b i = omega (arith, c.pair-in-loop-i.ensures.0) in
    rw (x, y) (record {
      room = writing_room (text (message_differences (i + 1) (body_at a i c.loop-i.p) (body_at b i c.loop-i.q))) (pairs_text a b (i + 1) (c.loop-i.p + size_at a i) (c.loop-i.q + size_at b i)) c.loop-i.invariant.writing (pairs_more a b i c.loop-i.p c.loop-i.q h k);
      short = omega (arith, length-take (size_at a i) (drop c.loop-i.p a), c.pair.ensures.1);
    })

pub loop-i-preserved : goal.loop-i-preserved
unfolding count_of
loop-i-preserved c =
    let a = c.args.a.now in
    let b = c.args.b.now in
    let i = c.loop-i.i in
    let l = least_of c.byte-first.result c.byte-second.result c.min-both.result c.min-both.ensures in
    let h : i < count_of a = omega arith in
    let k : i < count_of b = omega arith in
    let x : c.loop-i.p + c.pair.result - c.loop-i.p ≡ size_at a i = omega (arith, c.pair.ensures.0) in
    let y : c.loop-i.q + c.pair-in-loop-i.result - c.loop-i.q ≡ size_at b i = omega (arith, c.pair-in-loop-i.ensures.0) in
    let e : c.pair.result ≡ size_at a i = c.pair.ensures.0 in
    let f : c.pair-in-loop-i.result ≡ size_at b i = c.pair-in-loop-i.ensures.0 in
    let m = left_more a i h in
    let n = left_more b i k in
    record {
      first = omega arith;
      second = omega arith;
      writing = rw (e, f) (writing_more c.loop-i.invariant.writing (pairs_more a b i c.loop-i.p c.loop-i.q h k) (rw (x, y) at c.put_message.ensures));
    }

pub put_alone-requires : goal.put_alone-requires
unfolding count_of ascii
put_alone-requires c =
    let a = c.args.a.now in
    let b = c.args.b.now in
    let m = c.byte-first.result in
    let n = c.byte-second.result in
    let both = c.min-both.result in
    let l = least_of c.byte-first.result c.byte-second.result c.min-both.result c.min-both.ensures in
    let e = pairs_done a b c.loop-i.i c.loop-i.p c.loop-i.q m n both (omega arith) (omega arith) (omega arith) l.which in
    record { room = writing_room (lines_from (ascii "first") (both + 1) (m - both)) (lines_from (ascii "second") (both + 1) (n - both)) c.loop-i.invariant.writing e; few = omega arith }

pub put_alone-requires-2 : goal.put_alone-requires-2
unfolding count_of ascii
put_alone-requires-2 c =
    let a = c.args.a.now in
    let b = c.args.b.now in
    let m = c.byte-first.result in
    let n = c.byte-second.result in
    let both = c.min-both.result in
    let l = least_of c.byte-first.result c.byte-second.result c.min-both.result c.min-both.ensures in
    let e = pairs_done a b c.loop-i.i c.loop-i.p c.loop-i.q m n both (omega arith) (omega arith) (omega arith) l.which in
    record { room = (writing_more c.loop-i.invariant.writing e c.put_alone.ensures).room; few = omega arith }

pub returns : goal.returns
unfolding count_of ascii
returns c =
    let a = c.args.a.now in
    let b = c.args.b.now in
    let m = c.byte-first.result in
    let n = c.byte-second.result in
    let both = c.min-both.result in
    let l = least_of c.byte-first.result c.byte-second.result c.min-both.result c.min-both.ensures in
    let e = pairs_done a b c.loop-i.i c.loop-i.p c.loop-i.q m n both (omega arith) (omega arith) (omega arith) l.which in
    writing_done (writing_more c.loop-i.invariant.writing e c.put_alone.ensures) c.put_alone-2.ensures
