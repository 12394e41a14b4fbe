-- The session at the place found goes, if there is one.
-- Assumes nothing.
use Rattle.std.proofs.Common.{get_or}
use Rattle.std.proofs.lemmas.Result.{err_from_is_err_and}
use Rattle.sessions.specs.Book.{is_named}
use Rattle.sessions.specs.Keeps.{sessions_of}
use Rattle.sessions.proofs.Kept.{named_ok, named_err, withdraws_name, withdraws_none, withdraws_done}
use Rattle.sessions.proofs.Places.{found_at, found_none}
use Rattle.sessions.proofs.Queues.{no_queue}
use Rattle.sessions.proofs.table.Table.strike.Goals as goal

pub returns-in_err-own : goal.returns-in_err-own
returns-in_err-own c =
    let a = c.args in
    let p = err_from_is_err_and c.from_residual.result c.from_residual.ensures.1 in
    let e = named_err a.axle a.identifier.now c.in_err-own.field-0.0 c.in_err-own.ensures.value in
    rw (p.1, p.2, e.0) (withdraws_name a.self.now a.axle a.identifier.now e.1)

pub returns-in_default : goal.returns-in_default
returns-in_default c =
    let a = c.args in
    let own = c.in_ok-own.own in
    let g = named_ok a.axle a.identifier.now own c.in_ok-own.ensures.value in
    let b = sessions_of a.axle (get_or a.self.now.queues own no_queue) in
    withdraws_none a.self.now a.axle a.identifier.now own no_queue g (found_none (is_named a.axle a.identifier.now) b (c.in_default.ensures.found a.axle))

pub returns : goal.returns
returns c =
    let a = c.args in
    let own = c.in_ok-own.own in
    let g = named_ok a.axle a.identifier.now own c.in_ok-own.ensures.value in
    let b = sessions_of a.axle (get_or a.self.now.queues own no_queue) in
    let f = found_at (is_named a.axle a.identifier.now) b c.in-Some.place (c.in-Some.ensures.found a.axle) in
    withdraws_done a.self.now a.axle a.identifier.now own no_queue g c.in-Some.place f.0 f.1 c.remove.new.self c.remove.ensures
