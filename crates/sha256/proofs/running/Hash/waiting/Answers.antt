-- What waits is behind the whole blocks.
-- Assumes nothing.
use Rattle.std.proofs.Common.{refl}
use Rattle.sha256.specs.Running.{taken}
use Rattle.sha256.proofs.running.Hash.waiting.Goals as goal

pub returns : goal.returns
unfolding taken
returns c = refl
