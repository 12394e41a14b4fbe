-- The answers to the first k calls are written, and the table keeps the book after them.
-- Assumes nothing.
use Rattle.std.proofs.Common.{◌≡◌, ◌∙◌, ap, ◌+◌, ◌-◌, ◌*◌, ◌/◌, ◌++◌, length, take, drop, add-one, arith}
use lib.ListN.{length-take, length-drop}
use Rattle.script.specs.Script.{call_at}
use Rattle.script.specs.Steps.{Steps}
use Rattle.script.proofs.Laws.{call_length, book_none, said, book_at, said_more, book_more, built_none, built_more, built_all, too_short}
use Rattle.script.proofs.replay.Goals as goal

pub returns-then-out-n : goal.returns-then-out-n
returns-then-out-n c =
    let a = c.args in
    let t = too_short a.script.now a.out.now c.if-out-n.true in
    record { number = t.0; out = t.1 }

pub loop-k-init : goal.loop-k-init
loop-k-init c =
    let a = c.args in
    record { room = omega arith; keeps = book_none a.script.now c.fresh-table.result c.fresh-table.ensures.keeps; built = built_none a.script.now a.out.now }

pub read_call-requires : goal.read_call-requires
read_call-requires c = rw (length-take, length-drop) (omega arith)

pub loop-k-preserved : goal.loop-k-preserved
loop-k-preserved c =
    let a = c.args in
    let s = a.script.now in
    let k = c.loop-k.k in
    let z : 112 * k + 112 - 112 * k ≡ 112 = omega arith in
    let t : Steps c.loop-k.table (call_at s k) c.step-reply.result c.step-reply.new.table = rw (c.read_call.ensures.call, z) at c.step-reply.ensures in
    let b = book_at s k in
    let r = t.replied b c.loop-k.invariant.keeps in
    let n : length c.step-reply.result ≡ 70 = ap length r ∙ call_length b (take 112 (drop (112 * k) s)) in
    let m : said s (k + 1) ≡ said s k ++ c.step-reply.result = rw (add-one, said_more s k, r) in
    record {
      room = omega arith;
      keeps = rw (add-one, book_more s k) (t.keeps (book_at s k) c.loop-k.invariant.keeps);
      built = built_more c.loop-k.out (said s k) (said s (k + 1)) a.out.now c.copy_from_slice.new.self c.step-reply.result (70 * k) (70 * (k + 1)) _ c.loop-k.invariant.built n (omega arith) (omega arith) m (omega arith) c.copy_from_slice.ensures.after;
    }

pub returns : goal.returns
returns c =
    let a = c.args in
    let e : c.loop-k.k ≡ length a.script.now / 112 = omega arith in
    let b = built_all a.script.now c.loop-k.out a.out.now (rw e at c.loop-k.invariant.built) (omega arith) in
    record { number = b.0; out = b.1 }
