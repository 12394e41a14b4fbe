-- The digest is the bytes of the first six of the eight words.
-- Assumes nothing.
use Rattle.sha384.specs.Compress.{output}
use Rattle.sha384.proofs.compress.output.Goals as goal

pub returns : goal.returns
unfolding output
returns c = c.bytes.ensures
