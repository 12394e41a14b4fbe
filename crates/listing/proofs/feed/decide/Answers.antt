-- A fresh table keeps the empty book.
-- Assumes nothing.
use mathlib.Core.Path.{ap}
use Rattle.sessions.specs.Book.{empty}
use Rattle.decision.specs.declared.connection.Decision.{Decision}
use Rattle.listing.specs.Listing.{decision_refusal, decision_on}
use Rattle.listing.proofs.feed.decide.Goals as goal

pub returns : goal.returns
unfolding decision_refusal decision_on
returns c =
    ap (λ (d : Decision). d.refusal)
    (rw c.fresh-connection.ensures at (c.decide_server-decision.ensures.answers empty c.fresh-table.ensures.keeps).answer)
