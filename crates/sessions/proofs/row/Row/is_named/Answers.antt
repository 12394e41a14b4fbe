-- By the identifier's own bytes.
-- Assumes nothing.
use Rattle.std.proofs.Common.{sym, ◌∙◌}
use Rattle.sessions.proofs.Fields.{named_is}
use Rattle.sessions.proofs.row.Row.is_named.Goals as goal

pub returns : goal.returns
returns c = let a = c.args in λ x. c.same.ensures ∙ (rw c.name.ensures (sym (named_is x a.identifier.now a.self.now)))
