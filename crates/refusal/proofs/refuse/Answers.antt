-- No place is place 0.
-- Assumes nothing.
use Rattle.refusal.specs.Table.{refusal_of}
use Rattle.refusal.proofs.refuse.Goals as goal

pub returns : goal.returns
unfolding refusal_of
returns c = c.refuse_at.ensures
