-- Each of the 80 rounds of a block finds its word in the ring that `load` and `rolled` make: the law of seqs, for SHA-384.
-- Assumes nothing.
use Rattle.std.proofs.Common.{refl}
use Rattle.seqs.proofs.Rolling as rolling
use Rattle.sha384.specs.Compress.{parameters, EachRound}

pub each_round : EachRound
each_round = rolling.each_round parameters refl
