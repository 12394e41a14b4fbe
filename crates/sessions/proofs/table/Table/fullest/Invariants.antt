-- The fullest of those that were looked at.
-- Assumes nothing.
use Rattle.std.proofs.Common.{◌≡◌, suc, ◌<◌}
use Rattle.sessions.specs.Book.{Book}
use Rattle.sessions.specs.Keeps.{table_of}
use Rattle.sessions.proofs.Ways.{fullest_of}
use Rattle.sessions.proofs.table.Table.fullest.Given as goal

abbrev pub invariant-loop-own : goal.invariant-loop-own
invariant-loop-own l = (l.most < 6) × ((b : Book) → l.self ≡ table_of b → suc l.most ≡ fullest_of b l.own)
