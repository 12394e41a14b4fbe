-- `sha384::words::bytes` is the bytes of the words, in their order: eight stores a turn.
-- Assumes nothing.
use Rattle.std.proofs.Common.{◌*◌, take}
use Rattle.seqs.specs.Fill.{Filled}
use Rattle.seqs.specs.Words.{big, bytes_of}
use Rattle.sha384.proofs.words.bytes.Given as goal

abbrev pub invariant-loop-t : goal.invariant-loop-t
invariant-loop-t l = Filled l.b 48 (bytes_of big 8 (take l.t l.w)) (8 * l.t)
