-- Two bytes as a number.
-- Assumes nothing.
use native.Mathlib.Omega.{arith}
use Prim.Native.Nat.{◌+◌}
use lib.ListN.{get_or-eq_default}
use Rattle.message.specs.Numbers.{pair_at, byte_at}
use Rattle.message.proofs.numbers.pair.Goals as goal

pub returns-then-bytes-at : goal.returns-then-bytes-at
unfolding pair_at byte_at
returns-then-bytes-at c =
    let a = c.args in
    let s = a.bytes.now in
    (omega (arith, get_or-eq_default s 0 {n = a.at} c.if-bytes-at.true, get_or-eq_default s 0 {n = a.at + 1} (omega arith)), omega arith)

pub returns : goal.returns
unfolding pair_at
returns c = omega arith
