-- The value stands with its side.
-- Assumes nothing.
use Rattle.transcript.specs.Laws.{enters_on}
use Rattle.message_log.proofs.Finishing.{takes_server, takes_client}
use Rattle.message_log.proofs.state.Log.taking.Goals as goal

pub returns-then-due : goal.returns-then-due
returns-then-due c = takes_server _ _ _ _ _ c.from.ensures c.take.new.self _ (enters_on c.take.ensures c.chosen-chosen.ensures) c.if-due.true

pub returns-else-due : goal.returns-else-due
returns-else-due c = takes_client _ _ _ _ _ c.from.ensures c.take.new.self _ (enters_on c.take.ensures c.chosen-chosen.ensures) c.if-due.false
