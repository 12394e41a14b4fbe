-- The digest of what is carried.
-- Assumes nothing.
use Rattle.transcript.proofs.Carrying.{carries_256}
use Rattle.transcript.proofs.Transcript.digest256.Goals as goal

pub returns : goal.returns
returns x c m h e = x.digest.ensures m (carries_256 _ c m h e)
