-- A log of no messages.
-- Assumes nothing.
use Rattle.message_log.specs.Places.{read}
use Rattle.message_log.specs.Stands.{number}
use Rattle.message_log.proofs.Standing.{fresh_stands}
use Rattle.message_log.proofs.state.Log.fresh.Goals as goal

pub returns : goal.returns
unfolding number read
returns c = rw c.from.ensures (fresh_stands c.fresh-hash.result c.fresh-hash.ensures)
