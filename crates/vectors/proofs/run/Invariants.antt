-- Each case is shorter than what is left.
-- Assumes nothing.
use Rattle.std.proofs.Common.{length}
use Rattle.vectors.proofs.run.Given as goal

abbrev pub decreases-loop-case : goal.decreases-loop-case
decreases-loop-case g l = length l.rest
