-- One round, from what the calls ensure.
-- Assumes nothing.
use Rattle.seqs.specs.Sha2.{round_of}
use Rattle.fips180.proofs.words.Words.round.Goals as goal

pub returns : goal.returns
unfolding round_of
returns g c = cc
