-- What waits is behind the whole blocks.
-- Assumes nothing.
use Rattle.std.proofs.Common.{refl}
use Rattle.sha384.specs.Running.{taken}
use Rattle.sha384.proofs.running.Hash384.waiting.Goals as goal

pub returns : goal.returns
unfolding taken
returns c = refl
