-- Their fields and then their extensions, where both were read.
-- Assumes nothing.
use Rattle.std.proofs.Common.{arith}
use Rattle.comparing.specs.Differences.{field_differences, extension_differences, read_differences}
use Rattle.comparing.specs.Comparison.{text}
use Rattle.comparing.specs.Steps.{hello_at, reading_at}
use Rattle.comparing.proofs.Putting.{puts_none, puts_both}
use Rattle.comparing.proofs.Texts.{text_append, two_long}
use Rattle.comparing.proofs.messages.put_hellos.Goals as goal

pub returns-in_default : goal.returns-in_default
unfolding read_differences reading_at text
returns-in_default c = rw c.in_default.is (puts_none _)

pub returns-in_default-second : goal.returns-in_default-second
unfolding read_differences reading_at text
returns-in_default-second c = rw (c.in-Some.is, c.in_default-second.is) (puts_none _)

pub put_fields-requires : goal.put_fields-requires
unfolding read_differences reading_at hello_at
put_fields-requires c =
    let a = c.args in
    let x = hello_at a.a.now c.in-Some.x in
    let y = hello_at a.b.now c.in-Some-second.y in
    let n = two_long (field_differences a.number x y) (extension_differences a.number x.extensions y.extensions) in
    let h = rw (c.in-Some.is, c.in-Some-second.is) at c.requires.room in
    record { within = rw (c.in-Some.is, c.in-Some-second.is) at c.requires.within; room = omega (arith, h, n) }

pub put_extensions-requires : goal.put_extensions-requires
unfolding read_differences reading_at hello_at
put_extensions-requires c =
    let a = c.args in
    let x = hello_at a.a.now c.in-Some.x in
    let y = hello_at a.b.now c.in-Some-second.y in
    let n = two_long (field_differences a.number x y) (extension_differences a.number x.extensions y.extensions) in
    let h = rw (c.in-Some.is, c.in-Some-second.is) at c.requires.room in
    omega (arith, h, n, c.put_fields.ensures.place, c.put_fields.ensures.long)

pub returns : goal.returns
unfolding read_differences reading_at hello_at
returns c =
    let a = c.args in
    let x = hello_at a.a.now c.in-Some.x in
    let y = hello_at a.b.now c.in-Some-second.y in
    let n = two_long (field_differences a.number x y) (extension_differences a.number x.extensions y.extensions) in
    let h = rw (c.in-Some.is, c.in-Some-second.is) at c.requires.room in
    rw (c.in-Some.is, c.in-Some-second.is, text_append) (puts_both (omega (arith, h, n)) c.put_fields.ensures c.put_extensions.ensures)
