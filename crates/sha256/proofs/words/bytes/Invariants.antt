-- `sha256::words::bytes` is the bytes of the words, in their order: four stores a turn.
-- Assumes nothing.
use Rattle.std.proofs.Common.{◌*◌, take}
use Rattle.seqs.specs.Fill.{Filled}
use Rattle.seqs.specs.Words.{big, bytes_of}
use Rattle.sha256.proofs.words.bytes.Given as goal

abbrev pub invariant-loop-t : goal.invariant-loop-t
invariant-loop-t l = Filled l.b 32 (bytes_of big 4 (take l.t l.w)) (4 * l.t)
