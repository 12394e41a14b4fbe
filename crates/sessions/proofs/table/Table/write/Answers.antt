-- One session goes, if any, and the new one is written last.
-- Assumes nothing.
use Rattle.std.proofs.Common.{◌≡◌, refl, ◌∙◌, ap, arith, suc}
use Rattle.std.proofs.lemmas.Result.{err_from_is_err_and}
use Rattle.refusal.specs.Table.{refusal_of}
use Rattle.sessions.specs.Book.{Session, Book, struck}
use Rattle.sessions.specs.Keeps.{part_of, laid, six, Keeps}
use Rattle.sessions.specs.declared.table.Table.{Table}
use Rattle.sessions.proofs.Numbers.{store_0}
use Rattle.sessions.proofs.table.Table.write.Goals.{in-Some, in_default}
use Rattle.sessions.proofs.Kept.{named_ok, named_err, one_goes, none_goes, stores_name, stores_length, stores_done}
use Rattle.sessions.proofs.Queues.{no_queue}
use Rattle.sessions.proofs.table.Table.write.Goals as goal

pub returns-in_err-own : goal.returns-in_err-own
returns-in_err-own c =
    let a = c.args in
    let p = err_from_is_err_and c.from_residual.result c.from_residual.ensures.1 in
    let e = named_err a.axle a.identifier.now c.in_err-own.field-0.0 c.in_err-own.ensures.value in
    rw (p.1, p.2, e.0) (stores_name a.self.now (record { axle = a.axle; identifier = a.identifier.now; ems = a.ems; suite = a.suite; secret = a.secret.now }) e.1)

pub returns-then-secret-ne48 : goal.returns-then-secret-ne48
returns-then-secret-ne48 c =
    let a = c.args in
    let g = named_ok a.axle a.identifier.now c.in_ok-own.own c.in_ok-own.ensures.value in
    stores_length a.self.now (record { axle = a.axle; identifier = a.identifier.now; ems = a.ems; suite = a.suite; secret = a.secret.now }) g.good c.if-secret-ne48.true

pub of-row-requires : goal.of-row-requires
of-row-requires c =
    let a = c.args in
    let g = named_ok a.axle a.identifier.now c.in_ok-own.own c.in_ok-own.ensures.value in
    (g.long, omega arith)

pub returns : goal.returns
returns c =
    let a = c.args in
    let i = a.identifier.now in
    let s : Session = record { axle = a.axle; identifier = i; ems = a.ems; suite = a.suite; secret = a.secret.now } in
    let own = c.in_ok-own.own in
    let g = named_ok a.axle i own c.in_ok-own.ensures.value in
    let t = c.match-victim.self in
    let left : (b : Book) → Keeps a.self.now b → t.queues ≡ six (λ x. laid (part_of x (struck (suc own) i b))) =
    λ b k.
    elim c.match-victim.branch [
      | in-Some w ↦ ap (λ (x : Table). x.queues) w.self-is ∙ one_goes a.self.now i own w.in-Some.goes no_queue w.remove.new.self w.in-Some.ensures.within w.in-Some.ensures.leaves w.remove.ensures b k
      | in_default w ↦ ap (λ (x : Table). x.queues) w.self-is ∙ none_goes a.self.now i own w.in_default.ensures.leaves b k
    ] in
    stores_done a.self.now s 0 (refusal_of 0) (store_0 s g.good c.if-secret-ne48.false) refl own no_queue g.is g.six t left c.of-row.result (c.of-row.ensures a.axle) c.push.new.self c.push.ensures refl
