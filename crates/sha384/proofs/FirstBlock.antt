-- A hash value that has taken one block: the running hash that it begins.
-- Assumes nothing.
use Rattle.std.proofs.Common.{ℕ, List, replicate, arith}
use Rattle.seqs.proofs.FirstBlock as first
use Rattle.sha384.specs.Constants.{initial}
use Rattle.sha384.specs.Compress.{step}
use Rattle.sha384.specs.Running.{Running}
use Rattle.sha384.specs.Begins.{Begins}
use Rattle.sha384.specs.declared.compress.State384.{State384}

-- nothing waits
pub begun_runs : {s : State384} {k : List ℕ} → Begins s k → Running (record { state = s; tail = replicate 128 0; length = 128 }) k
begun_runs b =
    record {
      holds = first.holds_one 128 (omega arith) step initial b.whole b.value;
      bounded = omega (arith, b.whole);
    }
