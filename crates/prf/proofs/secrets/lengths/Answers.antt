-- The number of the tests, or 0.
-- Assumes nothing.
use Rattle.std.proofs.Common.{refl, arith}
use Rattle.prf.proofs.Numbers.{secret_over, secret_done}
use Rattle.prf.proofs.secrets.lengths.Goals as goal

pub returns-then-pre_master-lt1 : goal.returns-then-pre_master-lt1
returns-then-pre_master-lt1 c = (secret_over _ _ _ _ c.then-pre_master-lt1.either, refl)

pub returns : goal.returns
returns c = secret_done _ _ _ _ (omega arith) (omega arith) (omega arith) (omega arith)
