-- The bytes before this turn's are masked.
-- Assumes nothing.
use Rattle.std.proofs.Common.{◌≡◌, ◌++◌, map, bit_xor, take, drop}
use Rattle.prf.proofs.keyed.masked.Given as goal

abbrev pub invariant-loop-v : goal.invariant-loop-v
invariant-loop-v g l = l.v-items ≡ map (λ v. bit_xor v l.x) (take l.v-index l.fn.block) ++ drop l.v-index l.fn.block
