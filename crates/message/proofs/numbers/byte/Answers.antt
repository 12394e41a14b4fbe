-- A byte as a number, 0 past the end.
-- Assumes nothing.
use mathlib.Core.Path.{refl, sym}
use lib.ListN.{get_or-eq_default}
use Rattle.message.specs.Numbers.{byte_at}
use native.Mathlib.Omega.{arith}
use Rattle.message.proofs.numbers.byte.Goals as goal

pub returns-then-bytes-at : goal.returns-then-bytes-at
unfolding byte_at
returns-then-bytes-at c = (sym (get_or-eq_default c.args.bytes.now 0 c.if-bytes-at.true), omega arith)

pub overflow_cast-result : goal.overflow_cast-result
overflow_cast-result c = omega (arith, c.type_inv.bytes c.args.at)

pub returns : goal.returns
unfolding byte_at
returns c = (refl, omega (arith, c.type_inv.bytes c.args.at))
