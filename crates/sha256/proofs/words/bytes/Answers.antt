-- `sha256::words::bytes` is the bytes of the words, in their order: four stores a turn.
-- Assumes nothing.
use Rattle.std.proofs.Common.{◌≡◌, ◌*◌, length, get_or, refl, add-one, arith, take_all, rules}
use native.Mathlib.Numerals.{add-two, add-three}
use Rattle.seqs.specs.Fill.{filled_none, filled_run, filled_all}
use Rattle.seqs.specs.Words.{bytes_of}
use Rattle.seqs.proofs.Words.{four, four_more}
use Rattle.sha256.proofs.words.bytes.Goals as goal

pub loop-t-init : goal.loop-t-init
unfolding bytes_of
loop-t-init c = filled_none _ 32 refl

pub loop-t-preserved : goal.loop-t-preserved
loop-t-preserved c =
    let l = c.loop-t in
    let w = c.args.w in
    let n : length w ≡ 8 = search rules in
    rw (add-one (4 * l.t), add-two (4 * l.t), add-three (4 * l.t))
    (filled_run (four (get_or w l.t 0)) l.invariant (omega arith) (omega arith) (four_more w l.t (omega arith)))

pub returns : goal.returns
returns c =
    let l = c.loop-t in
    let w = c.args.w in
    let n : length w ≡ 8 = search rules in
    rw (take_all l.t w (omega arith)) at (filled_all l.invariant (omega arith))
