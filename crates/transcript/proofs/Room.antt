-- The room of an allowance is tight.
-- Assumes nothing.
use mathlib.Core.Path.{◌≡◌, refl}
use mathlib.Core.List.{List}
use Prim.Native.Nat.{ℕ, ◌+◌, ◌≤◌}
use native.Mathlib.Omega.{arith}
use lib.ListN.{length}
use Rattle.seqs.specs.Taken.{completed}
use Rattle.seqs.proofs.Taking.{completed_blocks}
use Rattle.transcript.specs.Choice.{Algorithm, Choice, block_of}
use Rattle.transcript.specs.Choice.Algorithm.{sha_256, sha_384}
use Rattle.transcript.specs.Choice.Choice.{unchosen, chosen}
use Rattle.transcript.specs.Allowance.{room_of, room, blocks, Over, Tight}
use Rattle.transcript.specs.Laws.{room_of_lem}
use Rattle.transcript.proofs.Smaller.{room_256_is_smaller}

-- of one hash
tight_of : (a : Algorithm) (k : ℕ) (m b : List ℕ)
    → (length b ≤ room_of a k m → completed (block_of a) m b ≤ k) × (length b ≡ room_of a k m + 1 → completed (block_of a) m b ≡ k + 1)
unfolding room_of
tight_of sha_256 k m b =
    (λ h. omega (arith, completed_blocks 64 (omega arith) m b), λ h. omega (arith, completed_blocks 64 (omega arith) m b))
tight_of sha_384 k m b =
    (λ h. omega (arith, completed_blocks 128 (omega arith) m b), λ h. omega (arith, completed_blocks 128 (omega arith) m b))

within : (c : Choice) (k : ℕ) (m b : List ℕ) → length b ≤ room c k m → (a : Algorithm) → blocks c a m b ≤ k
unfolding room blocks
within unchosen k m b h sha_256 = (tight_of sha_256 k m b).0 (omega (arith, h, room_256_is_smaller k m))
within unchosen k m b h sha_384 = (tight_of sha_384 k m b).0 (omega (arith, h, room_256_is_smaller k m, room_of_lem k m))
within (chosen sha_256) k m b h sha_256 = (tight_of sha_256 k m b).0 h
within (chosen sha_256) k m b h sha_384 = omega arith
within (chosen sha_384) k m b h sha_256 = omega arith
within (chosen sha_384) k m b h sha_384 = (tight_of sha_384 k m b).0 h

over : (c : Choice) (k : ℕ) (m b : List ℕ) → length b ≡ room c k m + 1 → Over c k m b
unfolding room blocks
over unchosen k m b e =
    record { hash = sha_256; carried = refl; over = (tight_of sha_256 k m b).1 (omega (arith, e, room_256_is_smaller k m)) }
over (chosen sha_256) k m b e = record { hash = sha_256; carried = refl; over = (tight_of sha_256 k m b).1 e }
over (chosen sha_384) k m b e = record { hash = sha_384; carried = refl; over = (tight_of sha_384 k m b).1 e }

pub tight : Tight
tight c k m b = (within c k m b, over c k m b)
