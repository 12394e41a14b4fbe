-- Document 01's five cases, each a way out.
-- Assumes nothing.
use Rattle.std.proofs.Common.{sym, ◌∙◌, ap, arith, suc, length, get_or}
use Rattle.sessions.specs.Book.{is_named}
use Rattle.sessions.specs.Keeps.{sessions_of}
use Rattle.sessions.proofs.Leaves.{leaves_named, leaves_eighth, leaves_none, leaves_own, leaves_other}
use Rattle.sessions.proofs.Places.{found_at, found_none, sessions_length}
use Rattle.sessions.proofs.Queues.{no_queue, sessions_at}
use Rattle.sessions.proofs.table.Table.victim.Goals as goal

pub returns-in-Some-clause-leaves : goal.returns-in-Some-clause-leaves
returns-in-Some-clause-leaves c =
    let a = c.args in
    let i = a.identifier.now in
    let own = suc a.own in
    let q = sessions_of own (get_or a.self.now.queues a.own no_queue) in
    let f = found_at (is_named own i) q c.in-Some.place (c.in-Some.ensures.found own) in
    λ b k. rw f.0 (leaves_named own i b q (sessions_at a.self.now b k.table a.own no_queue c.requires) (omega (arith, f.0, f.1)))

pub returns-then-n-eq8-clause-leaves : goal.returns-then-n-eq8-clause-leaves
returns-then-n-eq8-clause-leaves c =
    let a = c.args in
    let i = a.identifier.now in
    let own = suc a.own in
    let q = sessions_of own (get_or a.self.now.queues a.own no_queue) in
    let past = found_none (is_named own i) q (c.in_default.ensures.found own) in
    let n = ap length c.sessions-n.ensures.0 ∙ sym (sessions_length own (get_or a.self.now.queues a.own no_queue)) in
    λ b k. leaves_eighth own i b q (sessions_at a.self.now b k.table a.own no_queue c.requires) past (omega (arith, n, c.if-n-eq8.true))

pub returns-then-total-lt32-clause-leaves : goal.returns-then-total-lt32-clause-leaves
returns-then-total-lt32-clause-leaves c =
    let a = c.args in
    let i = a.identifier.now in
    let own = suc a.own in
    let q = sessions_of own (get_or a.self.now.queues a.own no_queue) in
    let past = found_none (is_named own i) q (c.in_default.ensures.found own) in
    let n = ap length c.sessions-n.ensures.0 ∙ sym (sessions_length own (get_or a.self.now.queues a.own no_queue)) in
    λ b k.
    leaves_none own i b q (sessions_at a.self.now b k.table a.own no_queue c.requires) past (λ e. c.if-n-eq8.false (n ∙ e)) (omega (arith, c.total.ensures b k.table k.sound, c.if-total-lt32.true))

pub returns-then-n-ge4-clause-leaves : goal.returns-then-n-ge4-clause-leaves
returns-then-n-ge4-clause-leaves c =
    let a = c.args in
    let i = a.identifier.now in
    let own = suc a.own in
    let q = sessions_of own (get_or a.self.now.queues a.own no_queue) in
    let past = found_none (is_named own i) q (c.in_default.ensures.found own) in
    let n = ap length c.sessions-n.ensures.0 ∙ sym (sessions_length own (get_or a.self.now.queues a.own no_queue)) in
    λ b k.
    leaves_own own i b q (sessions_at a.self.now b k.table a.own no_queue c.requires) past (λ e. c.if-n-eq8.false (n ∙ e)) (omega (arith, c.total.ensures b k.table k.sound, c.if-total-lt32.false))
    (omega (arith, n, c.if-n-ge4.true))

pub returns-else-n-ge4-clause-leaves : goal.returns-else-n-ge4-clause-leaves
returns-else-n-ge4-clause-leaves c =
    let a = c.args in
    let i = a.identifier.now in
    let own = suc a.own in
    let q = sessions_of own (get_or a.self.now.queues a.own no_queue) in
    let past = found_none (is_named own i) q (c.in_default.ensures.found own) in
    let n = ap length c.sessions-n.ensures.0 ∙ sym (sessions_length own (get_or a.self.now.queues a.own no_queue)) in
    λ b k.
    rw (c.fullest.ensures.1 b k.table)
    (leaves_other own i b q (sessions_at a.self.now b k.table a.own no_queue c.requires) past (λ e. c.if-n-eq8.false (n ∙ e)) (omega (arith, c.total.ensures b k.table k.sound, c.if-total-lt32.false))
    (omega (arith, n, c.if-n-ge4.false)))
