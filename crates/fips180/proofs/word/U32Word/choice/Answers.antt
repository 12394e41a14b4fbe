-- What the document says, by a law of digits.
-- Assumes nothing.
use Rattle.std.proofs.Common.{arith}
use Rattle.seqs.specs.Operations.{ch}
use Rattle.seqs.proofs.Bitwise.{choice}
use Rattle.fips180.proofs.word.U32Word.choice.Goals as goal

pub returns : goal.returns
unfolding ch
returns c = choice 32 c.args.self c.args.y c.args.z (omega arith) (omega arith) (omega arith)
