-- SHA-384 of a message (FIPS 180-4, section 6.5): padded to blocks of 128 bytes with its length in 16 bytes, big-endian, and the blocks
-- taken one after the other into the hash value.
-- Assumes nothing.
use Rattle.std.specs.Prelude.{ℕ, ◌/◌, List, length}
use Rattle.seqs.specs.Blocks.{after}
use Rattle.seqs.specs.Words.{big}
use Rattle.seqs.specs.Padding.{pad}
use Rattle.seqs.specs.Sha2.{Value}
use Rattle.sha384.specs.Constants.{initial}
use Rattle.sha384.specs.Compress.{step, output}

abbrev pub padded : List ℕ → List ℕ
padded m = pad 128 16 big m

-- H(k), the hash value after the first k blocks of m, begun at s
abbrev pub hashed : Value → ℕ → List ℕ → Value
hashed s k m = after 128 step s k m

unfoldable pub sha384 : List ℕ → List ℕ
sha384 m = output (hashed initial (length (padded m) / 128) (padded m))
