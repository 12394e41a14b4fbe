-- Each turn reads no more than the buffer has room for.
use Rattle.std.proofs.Common.{length, ◌-◌, ◌≡◌, ◌^◌, ◌<◌, ◌≤◌}
use Rattle.stdio.proofs.read_from.Given as goal

abbrev pub invariant-loop-length : goal.invariant-loop-length
invariant-loop-length g l = (length l.buffer ≡ length l.initial.buffer) × (l.length ≤ length l.buffer) × (length l.buffer < 2 ^ 64)

abbrev pub decreases-loop-length : goal.decreases-loop-length
decreases-loop-length g l = length l.buffer - l.length
