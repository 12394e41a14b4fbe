-- The whole parts, and the front of the last.
-- Assumes nothing.
use Rattle.std.proofs.Common.{refl, rules}
use Rattle.prf.proofs.Chains.{chain_last}
use Rattle.prf.proofs.expand.expand.Goals as goal

pub returns : goal.returns
returns g c k h =
    chain_last g.met.H.Begun.lawful k c.args.label.now c.args.seed.now c.args.out.now _ _ _ refl refl (search rules) c.requires.2
    (c.chain-a.ensures k h) (c.tag-part.ensures k h) c.copy_from_slice.ensures.after
