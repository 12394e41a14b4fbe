-- A hash value that has taken one block: the running hash that it begins.
-- Assumes nothing.
use Rattle.std.proofs.Common.{ℕ, List, replicate, arith}
use Rattle.seqs.proofs.FirstBlock as first
use Rattle.sha256.specs.Constants.{initial}
use Rattle.sha256.specs.Compress.{step}
use Rattle.sha256.specs.Running.{Running}
use Rattle.sha256.specs.Begins.{Begins}
use Rattle.sha256.specs.declared.compress.State.{State}

-- nothing waits
pub begun_runs : {s : State} {k : List ℕ} → Begins s k → Running (record { state = s; tail = replicate 64 0; length = 64 }) k
begun_runs b =
    record {
      holds = first.holds_one 64 (omega arith) step initial b.whole b.value;
      bounded = omega (arith, b.whole);
    }
