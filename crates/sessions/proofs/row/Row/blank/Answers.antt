-- Zeros.
-- Assumes nothing.
use mathlib.Core.Path.{refl}
use Rattle.sessions.specs.Keeps.{no_session}
use Rattle.sessions.proofs.row.Row.blank.Goals as goal

pub returns : goal.returns
unfolding no_session
returns c = refl
