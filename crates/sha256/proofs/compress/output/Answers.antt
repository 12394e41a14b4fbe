-- The digest is the bytes of the eight words.
-- Assumes nothing.
use Rattle.sha256.specs.Compress.{output}
use Rattle.sha256.proofs.compress.output.Goals as goal

pub returns : goal.returns
unfolding output
returns c = c.bytes.ensures
