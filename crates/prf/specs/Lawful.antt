-- Both hashes are lawful.
-- Assumes nothing.
use Rattle.std.proofs.Common.{arith}
use Rattle.sha256.specs.Laws.{length-sha256, bytes_sha256}
use Rattle.sha384.specs.Laws.{length-sha384, bytes_sha384}
use Rattle.prf.specs.Hash.{SHA256, SHA384, Lawful}

pub sha256_lawful : Lawful SHA256
sha256_lawful = record { long = length-sha256; bytes = bytes_sha256; some = omega arith; fits = omega arith }

pub sha384_lawful : Lawful SHA384
sha384_lawful = record { long = length-sha384; bytes = bytes_sha384; some = omega arith; fits = omega arith }
