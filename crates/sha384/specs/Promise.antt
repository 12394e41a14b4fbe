-- What the calls promise.
-- Assumes nothing.
use Rattle.std.specs.Prelude.{◌≡◌, ℕ, ◌+◌, ◌*◌, ◌<◌, ◌≤◌, List, [], ◌∷◌, ◌++◌, length, drop, replicate, nat_lt}
use Rattle.seqs.specs.Pick.{pick}
use Rattle.seqs.specs.Taken.{whole_blocks, completed}
use Rattle.refusal.specs.First.{first_of}
use Rattle.refusal.specs.Table.{refusal_of}
use Rattle.sha384.specs.Layout.{value_of}
use Rattle.sha384.specs.Running.{Running, taken, most}
use Rattle.sha384.specs.Sha384.{hashed, sha384}
use Rattle.sha384.specs.declared.running.Hash384.{Hash384}
use Rattle.sha384.specs.declared.running.Absorbed384.{Absorbed384}
use Rattle.sha384.specs.declared.running.Digested384.{Digested384}

-- the number of a call that is to take n bytes after t others: 'more is 10'
unfoldable pub absorb_number : ℕ → ℕ → ℕ
absorb_number t n = first_of ((10, nat_lt most (t + n)) ∷ [])

-- taking bytes: the number, for every hash; a refused one is the hash itself; and what is taken is added at the end
pub record Absorbs (hash : Hash384) (bytes : List ℕ) (r : Absorbed384) : Type 0 where
  pub refusal : r.refusal ≡ refusal_of (absorb_number (taken hash) (length bytes))
  pub refused : most < taken hash + length bytes → r.hash ≡ hash
  pub runs : (m : List ℕ) → Running hash m → length m + length bytes ≤ most → Running r.hash (m ++ bytes)

-- taking bytes that there is room for: they are added at the end, and the blocks that were worked are those that the definition completes
-- with them
pub record Takes (hash : Hash384) (bytes : List ℕ) (r : Hash384) (worked : ℕ) : Type 0 where
  pub runs : (m : List ℕ) → Running hash m → length m + length bytes ≤ most → Running r (m ++ bytes)
  pub counts : (m : List ℕ) → Running hash m → worked ≡ completed 128 m bytes

-- So the number is that of the steps of FIPS 180-4 by which the one hash value leads to the other, over the blocks behind those of m. The
-- proof is proofs/Counting.antt.
abbrev pub WorkedAreSteps : Type 0
WorkedAreSteps =
    (hash r : Hash384) (bytes m : List ℕ) (worked : ℕ) → Takes hash bytes r worked → Running hash m → length m + length bytes ≤ most
    → value_of r.state ≡ hashed (value_of hash.state) worked (drop (128 * whole_blocks 128 m) (m ++ bytes))

-- the one-shot call
unfoldable pub digested_of : List ℕ → Digested384
digested_of m =
    record {
      refusal = refusal_of (absorb_number 0 (length m));
      digest = pick (nat_lt most (length m)) (replicate 48 0) (sha384 m);
    }
