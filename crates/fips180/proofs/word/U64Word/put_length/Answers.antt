-- The length is in the last bytes.
-- Assumes nothing.
use Rattle.std.proofs.Common.{◌≡◌, ℕ, length, take, drop, replicate, ap, ◌∙◌, arith, length-drop, length-take-le}
use Rattle.fips180.proofs.Lengths.{put_high}
use Rattle.fips180.proofs.word.U64Word.put_length.Goals as goal

pub returns : goal.returns
returns c =
    let b = c.args.block.now in
    let n : length (take 8 (drop 112 b)) ≡ 8 = length-take-le 8 (drop 112 b) (simp length-drop (omega arith)) in
    let z : c.fill.new.self ≡ replicate 8 0 = c.fill.ensures.after (λ y e. e) ∙ ap (λ (k : ℕ). replicate k 0) n in
    rw (c.copy_from_slice.ensures.after, c.to_be_bytes.ensures) (put_high b c.fill.new.self c.args.x c.requires z c.ranges.x.fits)
