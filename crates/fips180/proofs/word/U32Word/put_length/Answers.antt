-- The length is in the last bytes.
-- Assumes nothing.
use Rattle.fips180.proofs.Lengths.{put_low}
use Rattle.fips180.proofs.word.U32Word.put_length.Goals as goal

pub returns : goal.returns
returns c = rw (c.copy_from_slice.ensures.after, c.to_be_bytes.ensures) (put_low c.args.block.now c.args.x)
