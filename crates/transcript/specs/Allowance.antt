-- Order 4's allowance, by order 7 'for each carried hash with its own block': how many bytes it lets in behind those that were hashed.
-- Assumes nothing.
use Rattle.std.specs.Prelude.{◌≡◌, true, List, ℕ, ◌+◌, ◌-◌, ◌*◌, ◌%◌, ◌≤◌, leb, length}
use Rattle.seqs.specs.Pick.{pick}
use Rattle.seqs.specs.Taken.{completed}
use Rattle.transcript.specs.Choice.{Algorithm, Choice, block_of, carried}
use Rattle.transcript.specs.Choice.Algorithm.{sha_256, sha_384}
use Rattle.transcript.specs.Choice.Choice.{unchosen, chosen}

abbrev pub smaller : ℕ → ℕ → ℕ
smaller i j = pick (leb i j) i j

-- 'With h bytes waiting in the hash and allowance k, .. 64(k+1)-1-h bytes', over the hash's block: all that can follow m and complete no
-- more than k of its blocks
unfoldable pub room_of : Algorithm → ℕ → List ℕ → ℕ
room_of a k m = block_of a * (k + 1) - 1 - length m % block_of a

-- 'the smaller taking applies'
unfoldable pub room : Choice → ℕ → List ℕ → ℕ
room unchosen k m = smaller (room_of sha_256 k m) (room_of sha_384 k m)
room (chosen a) k m = room_of a k m

-- 'the smaller of what is left and' that
unfoldable pub let_in : Choice → ℕ → List ℕ → ℕ → ℕ
let_in c k m left = smaller left (room c k m)

-- 'the blocks .. the hash definition completes with' b, behind m, for each hash: '0 for a hash not carried'
unfoldable pub blocks : Choice → Algorithm → List ℕ → List ℕ → ℕ
blocks c a m b = pick (carried c a) (completed (block_of a) m b) 0

-- the room is tight: what there is room for completes at most k blocks of each hash, and one byte more would complete k + 1 of a carried one.
-- The proof is proofs/Room.antt.
pub record Over (c : Choice) (k : ℕ) (m b : List ℕ) : Type 0 where
  pub hash : Algorithm
  pub carried : carried c hash ≡ true
  pub over : blocks c hash m b ≡ k + 1

abbrev pub Tight : Type 0
Tight =
    (c : Choice) (k : ℕ) (m b : List ℕ)
    → (length b ≤ room c k m → (a : Algorithm) → blocks c a m b ≤ k) × (length b ≡ room c k m + 1 → Over c k m b)

-- with both carried SHA-256's room is never the larger one. The proof is proofs/Smaller.antt.
abbrev pub Room256IsSmaller : Type 0
Room256IsSmaller = (k : ℕ) (m : List ℕ) → room unchosen k m ≡ room_of sha_256 k m
