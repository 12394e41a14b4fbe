-- The first part of the chain, and one more: the law of the chain, over any hash.
-- Assumes nothing.
use Rattle.std.proofs.Common.{◌++◌, ◌-◌, arith}
use Rattle.prf.proofs.Chains.{chain_none, chain_more}
use Rattle.prf.proofs.expand.+chain.Goals as goal

pub returns-then-i-eq0 : goal.returns-then-i-eq0
returns-then-i-eq0 g t c k h =
    rw c.if-i-eq0.true (chain_none g.met.H.Begun.lawful k (c.args.label.now ++ c.args.seed.now) c.args.out.now (c.tag.ensures k h))

pub returns : goal.returns
returns g t c k h =
    chain_more g.met.H.Begun.lawful k (c.args.label.now ++ c.args.seed.now) c.args.out.now (c.args.i - 1) _ c.args.i (omega arith) (omega arith)
    (c.chain-a.ensures k h) (c.tag-part.ensures k h) (c.tag-2.ensures k h) c.copy_from_slice.ensures.after
