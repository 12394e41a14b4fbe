-- An outcome with its bars.
-- Assumes nothing.
use Rattle.std.proofs.Common.{◌≡◌, ◌∙◌, not, ◌&&◌}
use Rattle.sessions.proofs.Fields.{from_bool_is}
use Rattle.decision.specs.Connection.{decided}
use Rattle.decision.proofs.outcome.decided.Goals as goal
use Rattle.decision.proofs.outcome.decided.Goals.{then-outcome, else-outcome}

pub returns : goal.returns
unfolding decided
returns c =
    let o = c.args.outcome in
    let b : c.if-outcome.from ≡ (o.resumes && not o.ems) =
    elim c.if-outcome.branch [
      | then-outcome w ↦ rw w.if-outcome.true w.from-is
      | else-outcome w ↦ rw w.if-outcome.false (w.from-is ∙ w.if-outcome.false)
    ] in
    rw (
      c.refuse.ensures,
      c.from.ensures,
      c.from-2.ensures,
      c.from-3.ensures,
      c.from-4.ensures,
      c.from-bar.ensures,
      b,
      from_bool_is o.resumes,
      from_bool_is o.ems,
      from_bool_is c.args.flag,
      from_bool_is (not o.ems),
      from_bool_is (o.resumes && not o.ems),
    )
