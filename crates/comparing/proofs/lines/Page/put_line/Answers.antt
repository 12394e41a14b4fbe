-- Five parts.
-- Assumes nothing.
use Rattle.std.proofs.Common.{arith}
use Rattle.cases.specs.Digits.{ascii}
use Rattle.comparing.specs.Comparison.{line}
use Rattle.comparing.proofs.Texts.{line_long, puts_five}
use Rattle.comparing.proofs.lines.Page.put_line.Goals as goal

pub put-requires : goal.put-requires
put-requires c =
    let a = c.args in
    rw (c.as_slice.ensures.value, c.decimal_of.ensures) (omega (arith, line_long a.number a.word.now a.of.now))

pub put-requires-2 : goal.put-requires-2
put-requires-2 c =
    let a = c.args in
    let p = rw (c.as_slice.ensures.value, c.decimal_of.ensures) at c.put.ensures.place in
    omega (arith, line_long a.number a.word.now a.of.now)

pub put-requires-3 : goal.put-requires-3
put-requires-3 c =
    let a = c.args in
    let p = rw (c.as_slice.ensures.value, c.decimal_of.ensures) at c.put.ensures.place in
    omega (arith, line_long a.number a.word.now a.of.now)

pub put-requires-4 : goal.put-requires-4
put-requires-4 c =
    let a = c.args in
    let p = rw (c.as_slice.ensures.value, c.decimal_of.ensures) at c.put.ensures.place in
    omega (arith, line_long a.number a.word.now a.of.now)

pub put-requires-5 : goal.put-requires-5
put-requires-5 c =
    let a = c.args in
    let p = rw (c.as_slice.ensures.value, c.decimal_of.ensures) at c.put.ensures.place in
    omega (arith, line_long a.number a.word.now a.of.now)

pub returns : goal.returns
unfolding line ascii
returns c =
    let p = rw (c.as_slice.ensures.value, c.decimal_of.ensures) at c.put.ensures in
    puts_five _ _ _ _ _ c.requires p c.put-2.ensures c.put-3.ensures c.put-4.ensures c.put-5.ensures
