-- The key, or its digest, in a block.
-- Assumes nothing.
use Rattle.std.proofs.Common.{arith, rules}
use Rattle.prf.specs.Hash.{hash_over}
use Rattle.prf.proofs.Keys.{block_long, block_short}
use Rattle.prf.proofs.keyed.key_block.Goals as goal

pub returns-then-key : goal.returns-then-key
returns-then-key g c =
    block_long (hash_over g.H.Begun.hash g.row.BLOCK g.row.DIGEST) c.args.key.now _ (search rules) c.if-key.true (c.digest_of.ensures c.requires)
    c.copy_from_slice.ensures.after

pub returns-else-key : goal.returns-else-key
returns-else-key g c =
    block_short (hash_over g.H.Begun.hash g.row.BLOCK g.row.DIGEST) c.args.key.now (omega arith) c.copy_from_slice-else-key.ensures.after
