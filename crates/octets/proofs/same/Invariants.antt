-- `octets::same` looks at every byte: so far, the strings are the same exactly where the difference is 0.
-- Assumes nothing.
use Rattle.std.proofs.Common.{◌≡◌, length, false}
use lib.Dec.{eqb}
use Rattle.seqs.specs.Pick.{pick}
use Rattle.octets.specs.Same.{same}
use Rattle.octets.proofs.same.Given as goal

-- of what is left of both
abbrev pub invariant-loop-x : goal.invariant-loop-x
invariant-loop-x l =
    let xs = l.x-iterator.a.rest.now in
    let ys = l.x-iterator.b.rest.now in
    (length xs ≡ length ys) × (same l.a l.b ≡ pick (eqb l.difference 0) (same xs ys) false)
