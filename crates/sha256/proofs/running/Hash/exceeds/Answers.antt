-- The bound of every hash.
-- Assumes nothing.
use Rattle.sha256.specs.Running.{taken}
use Rattle.sha256.proofs.running.Hash.exceeds.Goals as goal

pub returns : goal.returns
unfolding taken
returns c = c.exceeds.ensures
