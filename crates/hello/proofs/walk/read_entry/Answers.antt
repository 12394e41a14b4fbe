-- The extension at a place: each way out is one case of the definition.
-- Assumes nothing.
use Rattle.std.proofs.Common.{sym, arith}
use Rattle.hello.proofs.Entries.{entry_cut, entry_long, entry_whole}
use Rattle.hello.proofs.walk.read_entry.Goals as goal

pub returns-then-left-lt4-clause-value : goal.returns-then-left-lt4-clause-value
returns-then-left-lt4-clause-value c = sym (entry_cut _ _ (omega arith))

pub returns-then-left-length-clause-value : goal.returns-then-left-length-clause-value
returns-then-left-length-clause-value c = sym (entry_long _ _ c.two-length.result c.two-length.ensures.0 (omega arith) (omega arith))

pub returns-clause-value : goal.returns-clause-value
returns-clause-value c = rw c.two.ensures.0 (sym (entry_whole _ _ c.two-length.result c.two-length.ensures.0 (omega arith) (omega arith)))
