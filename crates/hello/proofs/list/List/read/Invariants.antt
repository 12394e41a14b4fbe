-- A fault behind extensions that are whole is the list's.
-- Assumes nothing.
use Rattle.std.proofs.Common.{◌≡◌, ℕ, ◌-◌, ◌≤◌, length}
use Rattle.hello.specs.Layout.{malformed}
use Rattle.hello.specs.Cuts.{parsed_at, well_formed_at}
use Rattle.hello.proofs.list.List.read.Given as goal

abbrev pub invariant-loop-end : goal.invariant-loop-end
invariant-loop-end l =
    record {
      within : l.end ≤ length l.message;
      fault : (p : ℕ) → parsed_at l.message l.end ≡ malformed p → parsed_at l.message l.at ≡ malformed p;
      whole : well_formed_at l.message l.at ≡ well_formed_at l.message l.end;
    }

abbrev pub decreases-loop-end : goal.decreases-loop-end
decreases-loop-end l = length l.message - l.end
