-- What FIPS 180-4 has of its own for each width of words: the values of `Sha2` of seqs.
-- Assumes nothing.
use Rattle.std.specs.Prelude.{ℕ, ◌*◌}
use Rattle.seqs.specs.Sha2.{Sha2}
use Rattle.fips180.specs.Functions32 as f32
use Rattle.fips180.specs.Functions64 as f64
use Rattle.fips180.specs.Constants32 as k32
use Rattle.fips180.specs.Constants64 as k64

-- SHA-256: words of 32 bits, and 48 of them behind the block's own sixteen
abbrev pub words32 : Sha2
words32 = record { width = 32; bytes = 4; Σ0 = f32.Σ0; Σ1 = f32.Σ1; σ0 = f32.σ0; σ1 = f32.σ1; ks = k32.ks; more = 48 }

-- SHA-384: words of 64 bits, and 64 of them behind the block's own sixteen
abbrev pub words64 : Sha2
words64 = record { width = 64; bytes = 8; Σ0 = f64.Σ0; Σ1 = f64.Σ1; σ0 = f64.σ0; σ1 = f64.σ1; ks = k64.ks; more = 64 }

-- the bytes of a block, and those that its length field has
abbrev pub size : Sha2 → ℕ
size F = 16 * F.bytes

abbrev pub field : Sha2 → ℕ
field F = 2 * F.bytes
