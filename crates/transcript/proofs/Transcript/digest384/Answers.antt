-- The digest of what is carried.
-- Assumes nothing.
use Rattle.transcript.proofs.Carrying.{carries_384}
use Rattle.transcript.proofs.Transcript.digest384.Goals as goal

pub returns : goal.returns
returns x c m h e = x.digest.ensures m (carries_384 _ c m h e)
