-- The bytes before this turn's are masked.
-- Assumes nothing.
use Rattle.std.proofs.Common.{rules, bit_xor}
use Rattle.std.proofs.lemmas.List.Edits.{map_over_more}
use Rattle.prf.proofs.Masks.{masked_all}
use Rattle.prf.proofs.keyed.masked.Goals as goal

pub loop-v-preserved : goal.loop-v-preserved
loop-v-preserved g c =
    map_over_more (λ v. bit_xor v c.args.x) c.args.block c.loop-v.v-items c.loop-v.v-index _ (search rules) c.loop-v.invariant (search rules)

pub returns : goal.returns
returns g c = masked_all c.args.x c.args.block c.loop-v.v-index (search rules) c.loop-v.invariant
