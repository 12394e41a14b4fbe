-- What the document says, from what the calls ensure.
-- Assumes nothing.
use Rattle.seqs.specs.Sha2.{next}
use Rattle.fips180.proofs.word.next_word.Goals as goal

pub returns : goal.returns
unfolding next
returns g c = cc
