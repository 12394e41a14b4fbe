-- The five fields, one behind the other.
-- Assumes nothing.
use Rattle.std.proofs.Common.{arith}
use Rattle.cases.specs.Digits.{ascii}
use Rattle.comparing.specs.Steps.{hello_at}
use Rattle.comparing.proofs.Texts.{fields_text, fields_long, puts_five}
use Rattle.comparing.proofs.fields.put_fields.Goals as goal

pub put_field-requires : goal.put_field-requires
unfolding hello_at ascii
put_field-requires c = omega (arith, c.requires.room, fields_long c.args.number (hello_at c.args.a.now c.args.x) (hello_at c.args.b.now c.args.y))

pub put_field-requires-2 : goal.put_field-requires-2
unfolding hello_at ascii
put_field-requires-2 c =
    let f = hello_at c.args.a.now c.args.x in
    let g = hello_at c.args.b.now c.args.y in
    rw c.same_part-random.ensures (omega (arith, c.requires.room, fields_long c.args.number f g))

pub put_field-requires-3 : goal.put_field-requires-3
unfolding hello_at ascii
put_field-requires-3 c =
    let f = hello_at c.args.a.now c.args.x in
    let g = hello_at c.args.b.now c.args.y in
    rw c.same_part-identifier.ensures (omega (arith, c.requires.room, fields_long c.args.number f g, (rw c.same_part-random.ensures at c.put_field-2.ensures.place)))

pub put_field-requires-4 : goal.put_field-requires-4
unfolding hello_at ascii
put_field-requires-4 c =
    let f = hello_at c.args.a.now c.args.x in
    let g = hello_at c.args.b.now c.args.y in
    rw c.same_part-suites.ensures (omega (arith, c.requires.room, fields_long c.args.number f g, (rw c.same_part-random.ensures at c.put_field-2.ensures.place), (rw c.same_part-identifier.ensures at c.put_field-3.ensures.place)))

pub put_field-requires-5 : goal.put_field-requires-5
unfolding hello_at ascii
put_field-requires-5 c =
    let f = hello_at c.args.a.now c.args.x in
    let g = hello_at c.args.b.now c.args.y in
    rw c.same_part-methods.ensures (omega (arith, c.requires.room, fields_long c.args.number f g, (rw c.same_part-random.ensures at c.put_field-2.ensures.place), (rw c.same_part-identifier.ensures at c.put_field-3.ensures.place), (rw c.same_part-suites.ensures at c.put_field-4.ensures.place)))

pub returns : goal.returns
unfolding hello_at ascii
returns c =
    let f = hello_at c.args.a.now c.args.x in
    let g = hello_at c.args.b.now c.args.y in
    rw (fields_text c.args.number f g) (puts_five _ _ _ _ _ (rw (fields_text c.args.number f g) at c.requires.room)
    c.put_field.ensures
    (rw c.same_part-random.ensures at c.put_field-2.ensures)
    (rw c.same_part-identifier.ensures at c.put_field-3.ensures)
    (rw c.same_part-suites.ensures at c.put_field-4.ensures)
    (rw c.same_part-methods.ensures at c.put_field-5.ensures))
