-- The session hash, once there is one.
-- Assumes nothing.
use mathlib.Core.Path.{◌∙◌}
use Rattle.message_log.proofs.Reasons.{out_of_turn_is}
use Rattle.message_log.proofs.Asking.{session_given, session_refused}
use Rattle.message_log.proofs.state.Log.session_hash.Goals as goal

pub returns-then-not-exchanged : goal.returns-then-not-exchanged
returns-then-not-exchanged c = session_refused _ _ _ c.exchanged.ensures (c.from.ensures ∙ out_of_turn_is) c.if-not-exchanged.true

pub returns : goal.returns
returns c = session_given _ _ _ c.exchanged.ensures _ c.refuse.ensures c.if-not-exchanged.false c.width.ensures
