-- What the code's types stand for: a hash, and one that is told or none.
-- Assumes nothing.
use Rattle.std.specs.Prelude.{ℕ, Option, Some, None}
use Rattle.transcript.specs.Choice.{Algorithm, Choice}
use Rattle.transcript.specs.Choice.Algorithm.{sha_256, sha_384}
use Rattle.transcript.specs.Choice.Choice.{unchosen, chosen}
use Rattle.transcript.specs.declared.algorithm.Algorithm.{Algorithm as Named}
use Rattle.transcript.specs.declared.algorithm.Algorithm.TheVariants.{Sha256, Sha384}

abbrev pub algorithm_in : Named → Algorithm
algorithm_in Sha256 = sha_256
algorithm_in Sha384 = sha_384

-- the byte that a transcript has which has chosen it
abbrev pub byte_of : Named → ℕ
byte_of Sha256 = 1
byte_of Sha384 = 2

abbrev pub told_in : Option Named → Choice
told_in None = unchosen
told_in (Some a) = chosen (algorithm_in a)
