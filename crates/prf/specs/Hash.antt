-- What HMAC and the PRF are stated over: a hash as a function on lists, the bytes of its block and the bytes of its digest.
-- Another hash adds a record, not a definition.
-- Assumes nothing.
use Rattle.std.specs.Prelude.{◌≡◌, Bool, true, false, List, ℕ, ◌≤◌, ◌<◌, length}
use Rattle.seqs.specs.Bytes.{Bytes}
use Rattle.sha256.specs.Sha256.{sha256}
use Rattle.sha384.specs.Sha384.{sha384}

pub record HashFunction : Type 0 where
  pub hash : List ℕ → List ℕ
  pub block : ℕ
  pub width : ℕ

-- the hash function h, over blocks and digests of so many bytes
abbrev pub hash_over : (List ℕ → List ℕ) → ℕ → ℕ → HashFunction
hash_over h block width = record { hash = h; block = block; width = width }

abbrev pub SHA256 : HashFunction
SHA256 = record { hash = sha256; block = 64; width = 32 }

abbrev pub SHA384 : HashFunction
SHA384 = record { hash = sha384; block = 128; width = 48 }

-- the hash of a suite's PRF, which a caller states by a flag, yes for SHA-384: 'The caller states .. which of the two hashes the suite
-- uses' (document 02, order 7)
abbrev pub hash_by : Bool → HashFunction
hash_by true = SHA384
hash_by false = SHA256

-- what a lawful hash brings. RFC 2104, section 2: 'We denote by B the byte-length of such blocks .. and by L the byte-length of hash
-- outputs'; a key longer than B is hashed to 'the resultant L byte string', which has to fit a block
pub record Lawful (H : HashFunction) : Type 0 where
  pub long : (m : List ℕ) → length (H.hash m) ≡ H.width
  pub bytes : (m : List ℕ) → Bytes (H.hash m)
  pub some : 0 < H.width
  pub fits : H.width ≤ H.block
