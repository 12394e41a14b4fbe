-- The hashes of the suites that there are (document 02, order 7), and which of them a log carries.
-- Assumes nothing.
use Rattle.std.specs.Prelude.{Bool, true, false, ℕ}

pub data Algorithm : Type 0 where
  sha_256 : Algorithm
  sha_384 : Algorithm

-- the bytes of its block
abbrev pub block_of : Algorithm → ℕ
block_of sha_256 = 64
block_of sha_384 = 128

-- 'which of the two hashes the suite uses': a flag, yes for SHA-384
abbrev pub algorithm_by : Bool → Algorithm
algorithm_by true = sha_384
algorithm_by false = sha_256

-- none is chosen yet, or one is
pub data Choice : Type 0 where
  unchosen : Choice
  chosen : Algorithm → Choice

-- 'until that is taken whole the log carries both', and then the chosen one
abbrev pub carried : Choice → Algorithm → Bool
carried unchosen a = true
carried (chosen sha_256) sha_256 = true
carried (chosen sha_256) sha_384 = false
carried (chosen sha_384) sha_256 = false
carried (chosen sha_384) sha_384 = true

-- the hash of the suite. Until one is chosen none of the calls asks for it (`ChoiceMade` of the crate `log`), and SHA-256 stands here
abbrev pub algorithm_of : Choice → Algorithm
algorithm_of unchosen = sha_256
algorithm_of (chosen a) = a
