-- A type stands twice in what is left exactly where one stands twice in all.
-- Assumes nothing.
use Rattle.std.proofs.Common.{◌≡◌, false, length}
use Rattle.writing.specs.Steps.{repeats}
use Rattle.writing.proofs.lists.List.repeats.Given as goal

abbrev pub invariant-all : goal.invariant-all
invariant-all l = record { none : l.found ≡ false; left : repeats l.types ≡ repeats l.self.types.now }

abbrev pub decreases-all : goal.decreases-all
decreases-all l = length l.types
