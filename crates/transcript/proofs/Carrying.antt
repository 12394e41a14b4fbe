-- The hash of the suite has taken everything.
-- Assumes nothing.
use mathlib.Core.Path.{◌≡◌, sym, ap}
use mathlib.Core.Bool.{Bool, true, false, false≢true}
use mathlib.Core.List.{List}
use Prim.Native.Nat.{ℕ}
use Rattle.sha256.specs.Running as sha256-specs
use Rattle.sha384.specs.Running as sha384-specs
use Rattle.transcript.specs.Choice.{Algorithm, Choice, algorithm_of}
use Rattle.transcript.specs.Choice.Algorithm.{sha_256, sha_384}
use Rattle.transcript.specs.Choice.Choice.{unchosen, chosen}
use Rattle.transcript.specs.Carries.{Carries}
use Rattle.transcript.specs.declared.Transcript.{Transcript}

-- the two are told apart
is384 : Algorithm → Bool
is384 sha_256 = false
is384 sha_384 = true

pub distinct : {X : Type 0} → sha_256 ≡ sha_384 → X
unfolding is384
distinct e = absurd (false≢true (ap is384 e))

module _ (t : Transcript) where
  pub carries_256 : (c : Choice) (m : List ℕ) → Carries t c m → algorithm_of c ≡ sha_256 → sha256-specs.Running t.sha256 m
  carries_256 unchosen m h e = h.sha256
  carries_256 (chosen sha_256) m h e = h.sha256
  carries_256 (chosen sha_384) m h e = distinct (sym e)

  pub carries_384 : (c : Choice) (m : List ℕ) → Carries t c m → algorithm_of c ≡ sha_384 → sha384-specs.Running t.sha384 m
  carries_384 unchosen m h e = distinct e
  carries_384 (chosen sha_256) m h e = distinct e
  carries_384 (chosen sha_384) m h e = h.sha384
