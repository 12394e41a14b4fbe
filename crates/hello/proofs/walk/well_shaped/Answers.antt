-- The shape of an extension's data.
-- Assumes nothing.
use Rattle.std.proofs.Common.{arith}
use Rattle.hello.proofs.Walks.{shape_ems, shape_ri, shape_other}
use Rattle.hello.proofs.walk.well_shaped.Goals as goal

pub returns-in-23 : goal.returns-in-23
returns-in-23 c = shape_ems _ _ c.in-23.is

pub returns-in-65281 : goal.returns-in-65281
returns-in-65281 c = shape_ri _ _ _ c.byte.ensures.0 (λ z. omega (arith, c.in-65281.is)) c.in-65281.is

pub returns-in_default : goal.returns-in_default
returns-in_default c = shape_other _ _ (λ z. omega arith) (λ z. omega arith)
