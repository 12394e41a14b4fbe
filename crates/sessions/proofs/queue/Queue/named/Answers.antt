-- The session at the place found.
-- Assumes nothing.
use Rattle.std.proofs.Common.{sym, ◌∙◌, ap, arith, ◌<◌, length}
use Rattle.std.proofs.Math.Option.{some}
use Rattle.sessions.specs.Book.{is_named}
use Rattle.sessions.specs.Keeps.{session_of, sessions_of}
use Rattle.sessions.proofs.Places.{no_row, place, session_in, found_at, found_none, place_oldest, place_none}
use Rattle.sessions.proofs.queue.Queue.named.Goals as goal

pub returns-in_err-i : goal.returns-in_err-i
returns-in_err-i c =
    let q = c.args.self.now in
    let i = c.args.identifier.now in
    λ a. rw c.from_residual.ensures (sym (place_none (is_named a i) (sessions_of a q) (found_none (is_named a i) (sessions_of a q) (c.in_err-i.ensures.found a))))

pub returns : goal.returns
returns c =
    let q = c.args.self.now in
    let i = c.args.identifier.now in
    let n = c.in_ok-i.i in
    λ a.
    let b = sessions_of a q in
    let p = is_named a i in
    let f = found_at p b n (c.in_ok-i.ensures.found a) in
    let h : place p b < length b = omega (arith, f.0, f.1) in
    sym (place_oldest p (session_of a no_row) b h ∙ ap some (rw (← f.0) (session_in a q n f.1)))
