-- The measure is i, which falls to 0.
-- Assumes nothing.
use Rattle.prf.proofs.expand.+chain.Given as goal

abbrev pub decreases-chain : goal.decreases-chain
decreases-chain g l = l.i
