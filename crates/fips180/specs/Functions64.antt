-- The functions on 64-bit words (FIPS 180-4, section 4.1.3): each takes a 64-bit word and gives a 64-bit word. Ch and Maj are those of
-- every hash of the document (`Operations` of seqs).
-- Assumes nothing.
use Rattle.std.specs.Prelude.{ℕ, bit_xor}
use Rattle.seqs.specs.Operations.{rotr, shr}

unfoldable pub Σ0 : ℕ → ℕ
Σ0 x = bit_xor (bit_xor (rotr 64 28 x) (rotr 64 34 x)) (rotr 64 39 x)

unfoldable pub Σ1 : ℕ → ℕ
Σ1 x = bit_xor (bit_xor (rotr 64 14 x) (rotr 64 18 x)) (rotr 64 41 x)

unfoldable pub σ0 : ℕ → ℕ
σ0 x = bit_xor (bit_xor (rotr 64 1 x) (rotr 64 8 x)) (shr 7 x)

unfoldable pub σ1 : ℕ → ℕ
σ1 x = bit_xor (bit_xor (rotr 64 19 x) (rotr 64 61 x)) (shr 6 x)
