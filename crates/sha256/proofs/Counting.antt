-- How many blocks more bytes complete, by the length that the struct has; and that so many steps lead from the one hash value to the other.
-- Assumes nothing.
use Rattle.std.proofs.Common.{◌≡◌, ℕ, ◌+◌, ◌/◌, ◌%◌, List, length, arith}
use Rattle.seqs.specs.Taken.{completed}
use Rattle.seqs.proofs.Taking as taking
use Rattle.sha256.specs.Constants.{initial}
use Rattle.sha256.specs.Compress.{step}
use Rattle.sha256.specs.Running.{Running}
use Rattle.sha256.specs.Promise.{WorkedAreSteps}
use Rattle.sha256.specs.declared.running.Hash.{Hash}

pub counts_completed : {hash : Hash} {worked : ℕ} (b : List ℕ) → worked ≡ (hash.length % 64 + length b) / 64
    → (m : List ℕ) → Running hash m → worked ≡ completed 64 m b
counts_completed b e m h = taking.counts_completed 64 (omega arith) step initial m b h.holds e

pub worked_steps : WorkedAreSteps
worked_steps hash r bytes m worked t h l =
    taking.steps_between 64 (omega arith) step initial m bytes h.holds (t.runs m h l).holds (t.counts m h)
