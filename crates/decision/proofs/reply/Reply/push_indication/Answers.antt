-- RI by the record.
-- Assumes nothing.
use Rattle.std.proofs.Common.{◌≡◌, ◌∙◌, ap, arith, rules, length, length-append, append_assoc}
use Rattle.decision.proofs.Replying.{indication_first, indication_later}
use Rattle.decision.proofs.reply.Reply.push_indication.Goals as goal

pub returns-then-connection-eq0-clause-content : goal.returns-then-connection-eq0-clause-content
returns-then-connection-eq0-clause-content c = rw (indication_first c.args.connection.now c.if-connection-eq0.true) c.push.ensures.content

pub returns-else-connection-eq0-clause-content : goal.returns-else-connection-eq0-clause-content
returns-else-connection-eq0-clause-content c =
    let k = c.args.connection.now in
    let l : length k.client ≡ 12 = search rules in
    let m : length k.server ≡ 12 = search rules in
    rw (indication_later k l m c.if-connection-eq0.false)
    (c.push-else-connection-eq0-2.ensures.content ∙ (rw (c.push-else-connection-eq0.ensures.content, c.verify_data.ensures, append_assoc)))

pub returns-then-connection-eq0-clause-size : goal.returns-then-connection-eq0-clause-size
returns-then-connection-eq0-clause-size c =
    let n = c.push.ensures.size in
    (rw (indication_first c.args.connection.now c.if-connection-eq0.true) (omega arith), omega arith)

pub returns-else-connection-eq0-clause-size : goal.returns-else-connection-eq0-clause-size
returns-else-connection-eq0-clause-size c =
    let k = c.args.connection.now in
    let l : length k.client ≡ 12 = search rules in
    let m : length k.server ≡ 12 = search rules in
    let n = c.push-else-connection-eq0.ensures.size in
    let o = c.push-else-connection-eq0-2.ensures.size in
    let v = ap length c.verify_data.ensures ∙ length-append k.client k.server in
    (rw (indication_later k l m c.if-connection-eq0.false) (simp length-append (omega arith)), omega arith)
