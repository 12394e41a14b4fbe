-- Each of the 64 rounds of a block finds its word in the ring that `load` and `rolled` make: the law of seqs, for SHA-256.
-- Assumes nothing.
use Rattle.std.proofs.Common.{refl}
use Rattle.seqs.proofs.Rolling as rolling
use Rattle.sha256.specs.Compress.{parameters, EachRound}

pub each_round : EachRound
each_round = rolling.each_round parameters refl
