-- `sha384::words::bytes` is the bytes of the words, in their order: eight stores a turn.
-- Assumes nothing.
use Rattle.std.proofs.Common.{◌≡◌, ◌*◌, length, get_or, refl, add-one, arith, take_all, rules}
use native.Mathlib.Numerals.{add-two, add-three, add-four, add_five, add_six, add_seven}
use Rattle.seqs.specs.Fill.{filled_none, filled_run, filled_all}
use Rattle.seqs.specs.Words.{bytes_of}
use Rattle.seqs.proofs.Words.{eight, eight_more}
use Rattle.sha384.proofs.words.bytes.Goals as goal

pub loop-t-init : goal.loop-t-init
unfolding bytes_of
loop-t-init c = filled_none _ 48 refl

pub loop-t-preserved : goal.loop-t-preserved
loop-t-preserved c =
    let l = c.loop-t in
    let w = c.args.w in
    let n : length w ≡ 6 = search rules in
    rw (add-one (8 * l.t), add-two (8 * l.t), add-three (8 * l.t), add-four (8 * l.t), add_five (8 * l.t), add_six (8 * l.t), add_seven (8 * l.t))
    (filled_run (eight (get_or w l.t 0)) l.invariant (omega arith) (omega arith) (eight_more w l.t (omega arith)))

pub returns : goal.returns
returns c =
    let l = c.loop-t in
    let w = c.args.w in
    let n : length w ≡ 6 = search rules in
    rw (take_all l.t w (omega arith)) at (filled_all l.invariant (omega arith))
