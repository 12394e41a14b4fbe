-- The outer hash of the inner digest, of a short message or of any.
-- Assumes nothing.
use Rattle.std.proofs.Common.{arith}
use Rattle.prf.specs.Hash.{hash_over}
use Rattle.prf.proofs.Keys.{hmac_outer}
use Rattle.prf.proofs.keyed.Keyed.tag.Goals as goal

pub returns-then-a-b : goal.returns-then-a-b
returns-then-a-b g c k h =
    hmac_outer (hash_over g.H.Begun.hash g.row.BLOCK g.row.DIGEST) k _ (c.ended_short.ensures _ h.inner (omega arith)) (c.ended_by.ensures _ h.outer)

pub returns : goal.returns
returns g c k h =
    hmac_outer (hash_over g.H.Begun.hash g.row.BLOCK g.row.DIGEST) k _ (c.ended.ensures _ h.inner c.requires) (c.ended_by-2.ensures _ h.outer)
