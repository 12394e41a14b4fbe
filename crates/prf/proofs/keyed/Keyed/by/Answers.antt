-- Both blocks of the key are taken.
-- Assumes nothing.
use Rattle.prf.specs.Hash.{hash_over}
use Rattle.prf.proofs.Keys.{keys_taken}
use Rattle.prf.proofs.keyed.Keyed.by.Goals as goal

pub returns : goal.returns
returns g c =
    keys_taken (hash_over g.H.Begun.hash g.row.BLOCK g.row.DIGEST) _ c.key_block-block.ensures c.masked.ensures c.masked-2.ensures
    c.of_block-inner.ensures c.of_block-outer.ensures
