-- A search through the sessions.
-- Assumes nothing.
use Rattle.std.proofs.Common.{rules, tests, ◌∙◌, take}
use Rattle.std.proofs.lemmas.Iterator.{YieldsList-from_slice}
use Rattle.std.proofs.lemmas.Iterator.Search.{position_from_yields_List}
use Rattle.sessions.specs.Book.{is_named}
use Rattle.sessions.specs.Keeps.{session_of, sessions_of}
use Rattle.sessions.specs.declared.row.Row.{Row}
use Rattle.sessions.proofs.Places.{found_map}
use Rattle.sessions.proofs.queue.Queue.find.Goals as goal

pub returns-clause-found : goal.returns-clause-found
unfolding sessions_of
returns-clause-found c =
    λ a.
    let i = c.args.identifier.now in
    let q = c.args.self.now in
    position_from_yields_List (λ (r : Row). is_named a i (session_of a r)) _ _ _ c.position.ensures.ran (YieldsList-from_slice c.sessions.result.now cc) (λ x b f k. search (rules, tests))
    ∙ (rw c.sessions.ensures.0 (found_map (is_named a i) (session_of a) (take q.held q.rows)))
