-- Turn by turn: before each the ring is W(16 * turn) to W(16 * turn + 15).
-- Assumes nothing.
use Rattle.seqs.proofs.Rolling.{rounds_none}
use Rattle.fips180.proofs.words.Words.all_rounds.Goals as goal

pub loop-turn-init : goal.loop-turn-init
loop-turn-init g c b r = (λ h. r, rounds_none g.W.Word.kind _ _)
