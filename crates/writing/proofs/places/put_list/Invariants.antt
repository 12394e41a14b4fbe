-- The extensions one after the other: what is written, with what is left behind it, is the whole list.
-- Assumes nothing.
use Rattle.std.proofs.Common.{◌≡◌, ◌+◌, ◌≤◌, ◌<◌, length}
use Rattle.hello.specs.Written.{written_list}
use Rattle.writing.specs.Lent.{lent}
use Rattle.octets.specs.Placed.{placed}
use Rattle.writing.proofs.places.put_list.Given as goal

abbrev pub invariant-loop-kind : goal.invariant-loop-kind
invariant-loop-kind l =
    record {
      room : l.to + length (written_list (lent l.kind-iterator)) ≤ length l.out;
      small : length (written_list (lent l.kind-iterator)) < 65536;
      written : placed l.out l.to (written_list (lent l.kind-iterator)) ≡ placed l.initial.out l.at (written_list (lent l.list));
    }
