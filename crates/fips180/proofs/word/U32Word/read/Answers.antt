-- Four bytes are one number.
-- Assumes nothing.
use Rattle.std.proofs.Common.{◌+◌, ◌*◌, arith}
use Rattle.seqs.specs.Words.{of_bytes}
use Rattle.seqs.proofs.Words.{four_at}
use Rattle.fips180.proofs.word.U32Word.read.Goals as goal

pub returns : goal.returns
unfolding of_bytes
returns c = rw (four_at c.args.b.now (c.args.at + 4 * c.args.t) c.requires) (omega (arith, c.from_be_bytes.ensures))
