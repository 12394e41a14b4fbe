-- There is a fresh hash, and a hash goes on: for every hash and more bytes there is one that has taken them behind whatever was taken before.
-- And what one hash has taken has one digest.
-- Assumes nothing.
use Rattle.std.proofs.Common.{◌≡◌, ℕ, ◌+◌, ◌-◌, ◌*◌, ◌/◌, ◌%◌, ◌≤◌, List, [], ◌++◌, length, take, drop, replicate, refl, ap, arith, length-append}
use Rattle.seqs.specs.Blocks.{after}
use Rattle.seqs.specs.Words.{big}
use Rattle.seqs.proofs.Taking.{holds_none, holds_further}
use Rattle.seqs.proofs.Ending.{same_end}
use Rattle.sha384.specs.Layout.{value_of}
use Rattle.sha384.specs.Constants.{initial}
use Rattle.sha384.specs.Compress.{step, output}
use Rattle.sha384.specs.Sha384.{sha384}
use Rattle.sha384.specs.Running.{Running, most}
use Rattle.sha384.specs.Promise.{Takes}
use Rattle.sha384.specs.declared.running.Hash384.{Hash384}
use Rattle.sha384.proofs.Alone.{state_of}
use Rattle.sha384.proofs.Counting.{counts_completed}

pub fresh : Hash384
fresh = record { state = state_of initial; tail = replicate 128 0; length = 0 }

pub fresh_runs : Running fresh []
unfolding fresh
fresh_runs = record { holds = holds_none 128 (omega arith) step initial; bounded = omega arith }

pub further : Hash384 → List ℕ → Hash384
further hash b =
    let bytes = take (hash.length % 128) hash.tail ++ b in
    let sum = hash.length % 128 + length b in
    record {
      state = state_of (after 128 step (value_of hash.state) (sum / 128) bytes);
      tail = drop (128 * (sum / 128)) bytes ++ replicate (128 - sum % 128) 0;
      length = hash.length + length b;
    }

pub further_runs : (hash : Hash384) (b n : List ℕ) → Running hash n → length n + length b ≤ most → Running (further hash b) (n ++ b)
unfolding further
further_runs hash b n r l =
    record {
      holds = holds_further 128 (omega arith) step initial n b r.holds;
      bounded = simp length-append (omega arith);
    }

-- and the blocks that it works are those that the bytes complete
pub further_worked : Hash384 → List ℕ → ℕ
further_worked hash b = (hash.length % 128 + length b) / 128

pub further_takes : (hash : Hash384) (b : List ℕ) → Takes hash b (further hash b) (further_worked hash b)
unfolding further_worked
further_takes hash b = record { runs = further_runs hash b; counts = counts_completed b refl }

pub one_digest : (hash : Hash384) (m n : List ℕ) → Running hash m → Running hash n → sha384 m ≡ sha384 n
unfolding sha384
one_digest hash m n p q = ap output (same_end 128 (omega arith) step initial 16 big (omega arith) p.holds q.holds)
