-- The bound of every hash.
-- Assumes nothing.
use Rattle.sha384.specs.Running.{taken}
use Rattle.sha384.proofs.running.Hash384.exceeds.Goals as goal

pub returns : goal.returns
unfolding taken
returns c = c.exceeds.ensures
