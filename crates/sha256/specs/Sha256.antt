-- SHA-256 of a message (FIPS 180-4, section 6.2): padded to blocks of 64 bytes with its length in 8 bytes, big-endian, and the blocks
-- taken one after the other into the hash value.
-- Assumes nothing.
use Rattle.std.specs.Prelude.{ℕ, ◌/◌, List, length}
use Rattle.seqs.specs.Blocks.{after}
use Rattle.seqs.specs.Words.{big}
use Rattle.seqs.specs.Padding.{pad}
use Rattle.seqs.specs.Sha2.{Value}
use Rattle.sha256.specs.Constants.{initial}
use Rattle.sha256.specs.Compress.{step, output}

abbrev pub padded : List ℕ → List ℕ
padded m = pad 64 8 big m

-- H(k), the hash value after the first k blocks of m, begun at s
abbrev pub hashed : Value → ℕ → List ℕ → Value
hashed s k m = after 64 step s k m

unfoldable pub sha256 : List ℕ → List ℕ
sha256 m = output (hashed initial (length (padded m) / 64) (padded m))
