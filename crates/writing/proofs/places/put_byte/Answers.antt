-- One byte put to its place.
-- Assumes nothing.
use mathlib.Core.Path.{refl}
use Rattle.octets.proofs.Placing.{placed_one}
use native.Mathlib.Omega.{arith}
use Rattle.writing.proofs.places.put_byte.Goals as goal

pub returns : goal.returns
returns c = (refl, placed_one _ _ _ (omega arith))
