-- The place first, then as ClientHellos and as ServerHellos.
-- Assumes nothing.
use Rattle.std.proofs.Common.{sym, ◌∙◌, ap, length, length-append, arith}
use Rattle.cases.specs.Digits.{ascii}
use Rattle.hello.specs.Fields.{read_client, read_server}
use Rattle.comparing.specs.Differences.{read_differences, message_differences}
use Rattle.comparing.specs.Comparison.{text}
use Rattle.comparing.proofs.Beginnings.{common_pairs, common_most}
use Rattle.comparing.proofs.Putting.{puts_none, puts_both}
use Rattle.comparing.proofs.Reading.{seen_within, seen_text, byte_line, differ_text, differ_long}
use Rattle.comparing.proofs.messages.put_message.Goals as goal

pub overflow_cast-common : goal.overflow_cast-common
overflow_cast-common c =
    let a = c.args in
    omega (arith, c.requires.short, common_pairs a.a.now a.b.now, common_most a.a.now a.b.now)

pub returns-then-same : goal.returns-then-same
unfolding message_differences text
returns-then-same c =
    rw (sym c.same.ensures ∙ c.if-same.true) (puts_none _)

pub put_numbered-requires : goal.put_numbered-requires
unfolding ascii
put_numbered-requires c =
    let a = c.args in
    rw (c.common.ensures ∙ sym (common_pairs a.a.now a.b.now)) (omega (arith, c.requires.room, differ_long a.number a.a.now a.b.now (sym c.same.ensures ∙ c.if-same.false)))

pub put_hellos-requires : goal.put_hellos-requires
unfolding ascii
put_hellos-requires c =
    let a = c.args in
    let x = seen_text a.number a.a.now a.b.now (read_client a.a.now) (read_client a.b.now) c.as_client.result c.as_client-2.result c.as_client.ensures c.as_client-2.ensures in
    let n = differ_long a.number a.a.now a.b.now (sym c.same.ensures ∙ c.if-same.false) in
    record { within = (seen_within a.a.now (read_client a.a.now) c.as_client.result c.as_client.ensures, seen_within a.b.now (read_client a.b.now) c.as_client-2.result c.as_client-2.ensures); room = omega (arith, c.requires.room, rw (c.common.ensures ∙ sym (common_pairs a.a.now a.b.now)) at c.put_numbered.ensures.place, n, ap length x) }

pub put_hellos-requires-2 : goal.put_hellos-requires-2
unfolding ascii
put_hellos-requires-2 c =
    let a = c.args in
    let x = seen_text a.number a.a.now a.b.now (read_client a.a.now) (read_client a.b.now) c.as_client.result c.as_client-2.result c.as_client.ensures c.as_client-2.ensures in
    let y = seen_text a.number a.a.now a.b.now (read_server a.a.now) (read_server a.b.now) c.as_server.result c.as_server-2.result c.as_server.ensures c.as_server-2.ensures in
    let n = differ_long a.number a.a.now a.b.now (sym c.same.ensures ∙ c.if-same.false) in
    record { within = (seen_within a.a.now (read_server a.a.now) c.as_server.result c.as_server.ensures, seen_within a.b.now (read_server a.b.now) c.as_server-2.result c.as_server-2.ensures); room = omega (arith, c.requires.room, rw (c.common.ensures ∙ sym (common_pairs a.a.now a.b.now)) at c.put_numbered.ensures.place, n, ap length x, ap length y) }

pub returns : goal.returns
unfolding ascii
returns c =
    let a = c.args in
    let x = seen_text a.number a.a.now a.b.now (read_client a.a.now) (read_client a.b.now) c.as_client.result c.as_client-2.result c.as_client.ensures c.as_client-2.ensures in
    let y = seen_text a.number a.a.now a.b.now (read_server a.a.now) (read_server a.b.now) c.as_server.result c.as_server-2.result c.as_server.ensures c.as_server-2.ensures in
    let d = sym c.same.ensures ∙ c.if-same.false in
    let n = differ_long a.number a.a.now a.b.now d in
    let l = length-append (byte_line a.number a.a.now a.b.now) (text (read_differences a.number (read_client a.a.now) (read_client a.b.now))) in
    let z = puts_both (omega (arith, c.requires.room, n)) (rw (c.common.ensures ∙ sym (common_pairs a.a.now a.b.now)) at c.put_numbered.ensures) (rw (sym x) at c.put_hellos.ensures) in
    rw (differ_text a.number a.a.now a.b.now d) (puts_both (omega (arith, c.requires.room, n, l)) z (rw (sym y) at c.put_hellos-2.ensures))
