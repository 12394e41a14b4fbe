-- The answers to the first k calls are written, and the table keeps the book after them.
-- Assumes nothing.
use Rattle.std.proofs.Common.{◌*◌, ◌≤◌, length}
use Rattle.sessions.specs.Keeps.{Keeps}
use Rattle.script.proofs.Laws.{said, book_at, Built}
use Rattle.script.proofs.replay.Given as goal

abbrev pub invariant-loop-k : goal.invariant-loop-k
invariant-loop-k l = record {
  room : 70 * l.n ≤ length l.initial.out;
  keeps : Keeps l.table (book_at l.script l.k);
  built : Built l.out (70 * l.k) (said l.script l.k) l.initial.out;
}
