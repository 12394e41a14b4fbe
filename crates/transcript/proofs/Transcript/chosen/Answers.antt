-- By the byte.
-- Assumes nothing.
use Rattle.std.proofs.Common.{sym, rules}
use Rattle.transcript.proofs.Entering.{of_256, of_384, of_other}
use Rattle.transcript.proofs.Transcript.chosen.Goals as goal

pub returns-in-1 : goal.returns-in-1
returns-in-1 c = sym (of_256 _ c.in-1.is)

pub returns-in-2 : goal.returns-in-2
returns-in-2 c = sym (of_384 _ c.in-2.is)

pub returns-in_default : goal.returns-in_default
returns-in_default c = sym (of_other _ (search rules) (search rules))
