-- The hash of a suite: what the PRF is over, how wide its digest is, and how a digest of either width crosses the outer face.
-- Assumes nothing.
use Rattle.std.specs.Prelude.{◌≡◌, Bool, List, ◌++◌, ℕ, ◌-◌, length, replicate}
use Rattle.transcript.specs.Choice.{Algorithm, block_of, algorithm_by}
use Rattle.transcript.specs.Choice.Algorithm.{sha_256, sha_384}
use Rattle.transcript.specs.Carries.{digest_of}
use Rattle.prf.specs.Hash.{HashFunction, SHA256, SHA384, hash_by}

abbrev pub function_of : Algorithm → HashFunction
function_of sha_256 = SHA256
function_of sha_384 = SHA384

abbrev pub width_of : Algorithm → ℕ
width_of a = (function_of a).width

-- in a field of 48 bytes, zeros behind it
abbrev pub in_field : List ℕ → List ℕ
in_field l = l ++ replicate (48 - length l) 0

-- the hash of the PRF, the one that the log carries and the one that a flag states are one. The proof is proofs/Chosen.antt.
pub record OneHash : Type 0 where
  pub digest : (a : Algorithm) (m : List ℕ) → digest_of a m ≡ (function_of a).hash m
  pub block : (a : Algorithm) → block_of a ≡ (function_of a).block
  pub stated : (sha384 : Bool) → function_of (algorithm_by sha384) ≡ hash_by sha384
