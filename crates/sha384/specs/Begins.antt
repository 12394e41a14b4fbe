-- What a hash value stands for that has taken one block.
-- Assumes nothing.
use Rattle.std.specs.Prelude.{◌≡◌, ℕ, List, length}
use Rattle.sha384.specs.Layout.{value_of}
use Rattle.sha384.specs.Constants.{initial}
use Rattle.sha384.specs.Compress.{step}
use Rattle.sha384.specs.declared.compress.State384.{State384}

-- the hash value has taken the block, and nothing else, from fresh
pub record Begins (s : State384) (block : List ℕ) : Type 0 where
  pub whole : length block ≡ 128
  pub value : value_of s ≡ step initial block
