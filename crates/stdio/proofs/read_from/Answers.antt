-- A turn that goes on has read something.
use native.Mathlib.Omega.{arith}
use Rattle.stdio.proofs.read_from.Goals as goal

pub loop-length-smaller : goal.loop-length-smaller
loop-length-smaller g c = omega arith
