-- What is left of the data and what is left to add up stay the same together.
-- Assumes nothing.
use Rattle.std.proofs.Common.{◌≡◌, ◌+◌, length, drop}
use Rattle.writing.specs.Lists.{total}
use Rattle.writing.proofs.lists.List.new.Given as goal

abbrev pub invariant-loop-length : goal.invariant-loop-length
invariant-loop-length l = total l.lengths + l.left ≡ total (drop l.length-index l.lengths) + length l.«data»
