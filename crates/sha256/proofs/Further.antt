-- There is a fresh hash, and a hash goes on: for every hash and more bytes there is one that has taken them behind whatever was taken before.
-- And what one hash has taken has one digest.
-- Assumes nothing.
use Rattle.std.proofs.Common.{◌≡◌, ℕ, ◌+◌, ◌-◌, ◌*◌, ◌/◌, ◌%◌, ◌≤◌, List, [], ◌++◌, length, take, drop, replicate, refl, ap, arith, length-append}
use Rattle.seqs.specs.Blocks.{after}
use Rattle.seqs.specs.Words.{big}
use Rattle.seqs.proofs.Taking.{holds_none, holds_further}
use Rattle.seqs.proofs.Ending.{same_end}
use Rattle.sha256.specs.Layout.{value_of}
use Rattle.sha256.specs.Constants.{initial}
use Rattle.sha256.specs.Compress.{step, output}
use Rattle.sha256.specs.Sha256.{sha256}
use Rattle.sha256.specs.Running.{Running, most}
use Rattle.sha256.specs.Promise.{Takes}
use Rattle.sha256.specs.declared.running.Hash.{Hash}
use Rattle.sha256.proofs.Alone.{state_of}
use Rattle.sha256.proofs.Counting.{counts_completed}

pub fresh : Hash
fresh = record { state = state_of initial; tail = replicate 64 0; length = 0 }

pub fresh_runs : Running fresh []
unfolding fresh
fresh_runs = record { holds = holds_none 64 (omega arith) step initial; bounded = omega arith }

pub further : Hash → List ℕ → Hash
further hash b =
    let bytes = take (hash.length % 64) hash.tail ++ b in
    let sum = hash.length % 64 + length b in
    record {
      state = state_of (after 64 step (value_of hash.state) (sum / 64) bytes);
      tail = drop (64 * (sum / 64)) bytes ++ replicate (64 - sum % 64) 0;
      length = hash.length + length b;
    }

pub further_runs : (hash : Hash) (b n : List ℕ) → Running hash n → length n + length b ≤ most → Running (further hash b) (n ++ b)
unfolding further
further_runs hash b n r l =
    record {
      holds = holds_further 64 (omega arith) step initial n b r.holds;
      bounded = simp length-append (omega arith);
    }

-- and the blocks that it works are those that the bytes complete
pub further_worked : Hash → List ℕ → ℕ
further_worked hash b = (hash.length % 64 + length b) / 64

pub further_takes : (hash : Hash) (b : List ℕ) → Takes hash b (further hash b) (further_worked hash b)
unfolding further_worked
further_takes hash b = record { runs = further_runs hash b; counts = counts_completed b refl }

pub one_digest : (hash : Hash) (m n : List ℕ) → Running hash m → Running hash n → sha256 m ≡ sha256 n
unfolding sha256
one_digest hash m n p q = ap output (same_end 64 (omega arith) step initial 8 big (omega arith) p.holds q.holds)
