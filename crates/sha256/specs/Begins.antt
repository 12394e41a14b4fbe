-- What a hash value stands for that has taken one block.
-- Assumes nothing.
use Rattle.std.specs.Prelude.{◌≡◌, ℕ, List, length}
use Rattle.sha256.specs.Layout.{value_of}
use Rattle.sha256.specs.Constants.{initial}
use Rattle.sha256.specs.Compress.{step}
use Rattle.sha256.specs.declared.compress.State.{State}

-- the hash value has taken the block, and nothing else, from fresh
pub record Begins (s : State) (block : List ℕ) : Type 0 where
  pub whole : length block ≡ 64
  pub value : value_of s ≡ step initial block
