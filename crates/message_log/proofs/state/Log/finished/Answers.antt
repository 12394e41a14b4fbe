-- Both Finished are taken at two places.
-- Assumes nothing.
use mathlib.Core.Path.{◌∙◌}
use mathlib.Core.Logic.{inl, inr}
use Rattle.message_log.specs.Places.{read}
use Rattle.message_log.specs.Stands.{number}
use Rattle.message_log.proofs.Asking.{finished_done, finished_not}
use Rattle.message_log.proofs.state.Log.finished.Goals as goal
use Rattle.message_log.proofs.state.Log.finished.Goals.{else-not-full-via-then-not-full+else-not-resumed, else-not-full-via-else-not-full}

pub returns-then-not-resumed : goal.returns-then-not-resumed
unfolding number read
returns-then-not-resumed c =
    finished_not c.args.self (rw c.from.ensures at c.if-not-full.true) (rw c.from-2.ensures at c.if-not-resumed.true)

pub returns : goal.returns
unfolding number read
returns c =
    finished_done c.args.self _ (c.from-3.ensures ∙ (rw c.from-2.ensures))
    (elim c.else-not-full.branch [
      | else-not-full-via-then-not-full+else-not-resumed w ↦ inr (rw c.from-2.ensures at w.if-not-resumed.false)
      | else-not-full-via-else-not-full w ↦ inl (rw c.from.ensures at w.if-not-full.false)
    ])
