-- A hash by blocks that takes its message in pieces: what it carries from one piece to the next. The block's size, the step and the
-- first hash value are parameters.
-- Assumes nothing.
use Rattle.std.specs.Prelude.{◌≡◌, List, ◌∷◌, ◌++◌, ℕ, ◌+◌, ◌-◌, ◌*◌, ◌/◌, ◌%◌, length, take, drop, replicate}
use Rattle.seqs.specs.Blocks.{after}

-- how many blocks of m are whole: so many are worked
abbrev pub whole_blocks : ℕ → List ℕ → ℕ
whole_blocks size m = length m / size

-- how many are completed by b, behind m
abbrev pub completed : ℕ → List ℕ → List ℕ → ℕ
completed size m b = whole_blocks size (m ++ b) - whole_blocks size m

-- what is left of m behind its whole blocks
abbrev pub left_of : ℕ → List ℕ → List ℕ
left_of size m = drop (size * (length m / size)) m

-- it waits at the front of a block that is zero behind it
abbrev pub waiting : ℕ → List ℕ → List ℕ
waiting size m = left_of size m ++ replicate (size - length m % size) 0

-- the first at bytes of such a block, a one bit behind them, and zeros to its end
abbrev pub sealed : ℕ → List ℕ → ℕ → List ℕ
sealed size block at = take at block ++ (128 ∷ replicate (size - (at + 1)) 0)

module _ {S : Type 0} (size : ℕ) (step : S → List ℕ → S) (initial : S) where
  -- m is taken: the hash value, the tail and the count, each fixed by m
  pub record Holds (value : S) (tail : List ℕ) (count : ℕ) (m : List ℕ) : Type 0 where
    pub worked : value ≡ after size step initial (whole_blocks size m) m
    pub waits : tail ≡ waiting size m
    pub counted : count ≡ length m

  -- The blocks that b completes are steps of the hash definition: the value behind m and b is the one behind m and so many steps more, over
  -- the blocks that begin where those of m end. The proof is proofs/Taking.antt.
  abbrev pub CompletedAreSteps : Type 0
  CompletedAreSteps =
      (m b : List ℕ)
      → after size step initial (whole_blocks size (m ++ b)) (m ++ b)
      ≡ after size step (after size step initial (whole_blocks size m) m) (completed size m b) (drop (size * whole_blocks size m) (m ++ b))
