-- What the document says, by a law of digits.
-- Assumes nothing.
use Rattle.std.proofs.Common.{arith}
use Rattle.seqs.specs.Operations.{maj}
use Rattle.seqs.proofs.Bitwise.{majority}
use Rattle.fips180.proofs.word.U32Word.majority.Goals as goal

pub returns : goal.returns
unfolding maj
returns c = majority 32 c.args.self c.args.y c.args.z (omega arith) (omega arith) (omega arith)
