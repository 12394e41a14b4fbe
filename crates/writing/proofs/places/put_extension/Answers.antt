-- An extension put to its place.
-- Assumes nothing.
use Rattle.std.proofs.Common.{arith}
use Rattle.hello.specs.Written.{two_bytes}
use Rattle.writing.specs.Messages.{vector16}
use Rattle.octets.proofs.Placing.{placed_more}
use Rattle.writing.proofs.places.put_extension.Goals as goal

pub returns : goal.returns
returns c =
    let a = c.args in
    (omega (arith, c.put_pair-length.ensures.0, c.put_vector.ensures.0), placed_more a.out.now a.at c.put_pair-length.result (two_bytes a.kind) (vector16 a.«data».now) (omega arith) c.put_pair-length.ensures.0 c.put_pair-length.ensures.1 c.put_vector.ensures.1)
