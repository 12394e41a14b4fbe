-- What taking bytes promises, of a hash value, a tail and the count of what was taken.
-- Assumes nothing.
use Rattle.std.specs.Prelude.{◌≡◌, ℕ, ◌+◌, ◌/◌, ◌%◌, List, ◌++◌, length}
use Rattle.seqs.specs.Sha2.{Sha2, Value, step}
use Rattle.seqs.specs.Blocks.{after}
use Rattle.seqs.specs.Words.{big}
use Rattle.seqs.specs.Padding.{pad}
use Rattle.seqs.specs.Taken.{Holds}
use Rattle.fips180.specs.Kinds.{size, field}

-- 'Called directly, a hash takes at most 1,048,576 bytes from fresh'
abbrev pub most : ℕ
most = 1048576

-- the hash holds m
abbrev pub HoldsBytes : Sha2 → Value → Value → List ℕ → ℕ → List ℕ → Type 0
HoldsBytes F first = Holds (size F) (step F) first

-- the bytes are added at the end, and the blocks that were worked are those that they complete
pub record TakesBytes (F : Sha2) (first value : Value) (tail : List ℕ) (taken : ℕ) (bytes : List ℕ) (next : Value) (rest : List ℕ) (worked : ℕ) : Type 0 where
  pub runs : (m : List ℕ) → HoldsBytes F first value tail taken m → HoldsBytes F first next rest (taken + length bytes) (m ++ bytes)
  pub counts : worked ≡ (taken % size F + length bytes) / size F
  pub long : length rest ≡ size F

-- the hash value behind the padded message
abbrev pub padded : Sha2 → List ℕ → List ℕ
padded F m = pad (size F) (field F) big m

abbrev pub HashesTo : Sha2 → Value → List ℕ → Value → Type 0
HashesTo F first m v = v ≡ after (size F) (step F) first (length (padded F m) / size F) (padded F m)
