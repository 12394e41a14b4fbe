-- Refused by a bound, or tagged.
-- Assumes nothing.
use Rattle.std.proofs.Common.{refl, arith}
use Rattle.prf.proofs.Numbers.{hmac_over, hmac_done}
use Rattle.prf.proofs.keyed.tag.Goals as goal

pub returns-then-key-gt-MOST : goal.returns-then-key-gt-MOST
returns-then-key-gt-MOST g c = (hmac_over _ _ c.then-key-gt-MOST.either, refl)

pub returns : goal.returns
returns g c = (hmac_done _ _ (omega arith) (omega arith), c.tag.ensures _ c.by.ensures)
