-- The functions on 32-bit words (FIPS 180-4, section 4.1.2): each takes a 32-bit word and gives a 32-bit word. Ch and Maj are those of
-- every hash of the document (`Operations` of seqs).
-- Assumes nothing.
use Rattle.std.specs.Prelude.{ℕ, bit_xor}
use Rattle.seqs.specs.Operations.{rotr, shr}

unfoldable pub Σ0 : ℕ → ℕ
Σ0 x = bit_xor (bit_xor (rotr 32 2 x) (rotr 32 13 x)) (rotr 32 22 x)

unfoldable pub Σ1 : ℕ → ℕ
Σ1 x = bit_xor (bit_xor (rotr 32 6 x) (rotr 32 11 x)) (rotr 32 25 x)

unfoldable pub σ0 : ℕ → ℕ
σ0 x = bit_xor (bit_xor (rotr 32 7 x) (rotr 32 18 x)) (shr 3 x)

unfoldable pub σ1 : ℕ → ℕ
σ1 x = bit_xor (bit_xor (rotr 32 17 x) (rotr 32 19 x)) (shr 10 x)
