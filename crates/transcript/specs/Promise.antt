-- What taking more bytes promises.
-- Assumes nothing.
use Rattle.std.specs.Prelude.{◌≡◌, List, ◌++◌, ℕ, ◌+◌, ◌≤◌, length}
use Rattle.sha256.specs.Running.{most}
use Rattle.transcript.specs.Choice.{Algorithm, Choice}
use Rattle.transcript.specs.Choice.Algorithm.{sha_256, sha_384}
use Rattle.transcript.specs.Choice.Choice.{unchosen, chosen}
use Rattle.transcript.specs.Allowance.{blocks}
use Rattle.transcript.specs.Carries.{Carries, choice_in}
use Rattle.transcript.specs.declared.Blocks.{Blocks}
use Rattle.transcript.specs.declared.Transcript.{Transcript}

-- a number for each hash
abbrev pub each : ℕ → ℕ → Algorithm → ℕ
each i j sha_256 = i
each i j sha_384 = j

-- what a call counts
abbrev pub worked : Blocks → Algorithm → ℕ
worked b = each b.sha256 b.sha384

-- the bytes are added at the end, and the blocks that were worked are those that each hash definition completes with them
pub record Enters (t : Transcript) (bytes : List ℕ) (r : Transcript) (worked : Algorithm → ℕ) : Type 0 where
  pub carries : (c : Choice) (m : List ℕ) → Carries t c m → length m + length bytes ≤ most → Carries r c (m ++ bytes)
  pub counts : (c : Choice) (m : List ℕ) → Carries t c m → (a : Algorithm) → worked a ≡ blocks c a m bytes

-- and behind them the transcript carries what it did, or of both the one that is told
pub record EntersTo (t : Transcript) (bytes : List ℕ) (told : Choice) (r : Transcript) (worked : Algorithm → ℕ) : Type 0 where
  -- the hashes that the bytes have entered
  pub hash : Transcript
  pub enters : Enters t bytes hash worked
  pub stays : told ≡ choice_in t → r ≡ hash
  pub chooses : (a : Algorithm) (m : List ℕ) → Carries hash unchosen m → told ≡ chosen a → Carries r (chosen a) m
