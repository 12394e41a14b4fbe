-- What a running hash stands for: the bytes that it has taken.
-- Assumes nothing.
use Rattle.std.specs.Prelude.{◌≡◌, ℕ, ◌≤◌, List, length}
use Rattle.seqs.specs.Taken.{Holds}
use Rattle.sha256.specs.Layout.{value_of}
use Rattle.sha256.specs.Constants.{initial}
use Rattle.sha256.specs.Compress.{step}
use Rattle.sha256.specs.declared.running.Hash.{Hash}

-- 'Called directly, a hash takes at most 1,048,576 bytes from fresh'
abbrev pub most : ℕ
most = 1048576

-- the hash has taken m, and nothing else, from fresh: the whole blocks of m are in the state, the rest of m waits in the tail, with
-- zeros behind it, and the length is that of m
pub record Running (hash : Hash) (m : List ℕ) : Type 0 where
  pub holds : Holds 64 step initial (value_of hash.state) hash.tail hash.length m
  pub bounded : length m ≤ most

-- so a running hash is one value for one message, however it was cut into pieces. The proof is proofs/Alone.antt.
abbrev pub OneValue : Type 0
OneValue = (h g : Hash) (m : List ℕ) → Running h m → Running g m → h ≡ g

-- how many bytes a hash has taken
unfoldable pub taken : Hash → ℕ
taken hash = hash.length
