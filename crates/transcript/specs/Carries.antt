-- What the carried hashes stand for: the bytes that each of them has taken.
-- Assumes nothing.
use Rattle.std.specs.Prelude.{◌≡◌, List, [], ℕ, eqb}
use Rattle.seqs.specs.Pick.{pick}
use Rattle.sha256.specs.Sha256.{sha256}
use Rattle.sha256.specs.Running as sha256-specs
use Rattle.sha384.specs.Sha384.{sha384}
use Rattle.sha384.specs.Running as sha384-specs
use Rattle.transcript.specs.Choice.{Algorithm, Choice, carried}
use Rattle.transcript.specs.Choice.Algorithm.{sha_256, sha_384}
use Rattle.transcript.specs.Choice.Choice.{unchosen, chosen}
use Rattle.transcript.specs.declared.Transcript.{Transcript}

-- the number that a transcript has for what is chosen
abbrev pub choice_number : Choice → ℕ
choice_number unchosen = 0
choice_number (chosen sha_256) = 1
choice_number (chosen sha_384) = 2

-- and what is chosen by the one that it has
unfoldable pub choice_in : Transcript → Choice
choice_in t = pick (eqb t.choice 1) (chosen sha_256) (pick (eqb t.choice 2) (chosen sha_384) unchosen)

-- what a hash has taken: m, or nothing where it isn't carried, so that it is the fresh one
abbrev pub taken_by : Choice → Algorithm → List ℕ → List ℕ
taken_by c a m = pick (carried c a) m []

-- every carried hash has taken m, and nothing else, from fresh, and the other one is fresh
pub record Carries (t : Transcript) (c : Choice) (m : List ℕ) : Type 0 where
  pub choice : t.choice ≡ choice_number c
  pub sha256 : sha256-specs.Running t.sha256 (taken_by c sha_256 m)
  pub sha384 : sha384-specs.Running t.sha384 (taken_by c sha_384 m)

-- they are one value for one list of bytes, however it was cut into pieces. The proof is proofs/Alone.antt.
abbrev pub OneTranscript : Type 0
OneTranscript = (t u : Transcript) (c : Choice) (m : List ℕ) → Carries t c m → Carries u c m → t ≡ u

-- the hash of the suite
abbrev pub digest_of : Algorithm → List ℕ → List ℕ
digest_of sha_256 m = sha256 m
digest_of sha_384 m = sha384 m
