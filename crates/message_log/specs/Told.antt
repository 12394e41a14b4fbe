-- What is told with a ServerHello (document 01, 'The message log'; document 02, order 7).
-- Assumes nothing.
use Rattle.std.specs.Prelude.{Bool, true, false}
use Rattle.seqs.specs.Flag.{yes}
use Rattle.transcript.specs.Choice.{Algorithm, algorithm_by}
use Rattle.message_log.specs.declared.answers.Told.{Told as Lent}

pub record Told : Type 0 where
  -- 'the log is told whether it resumes'
  pub resumes : Bool
  -- 'which of the two hashes the suite uses'
  pub hash : Algorithm

-- a full handshake with this hash, and one that resumes
abbrev pub full : Algorithm → Told
full a = record { resumes = false; hash = a }

abbrev pub resuming : Algorithm → Told
resuming a = record { resumes = true; hash = a }

-- as a caller hands it over
abbrev pub told_of : Lent → Told
told_of t = record { resumes = yes t.resumes; hash = algorithm_by (yes t.sha384) }
