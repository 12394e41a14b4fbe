-- One call of a script: what the functions behind `replay` say to each other.
-- Assumes nothing.
use Rattle.std.specs.Prelude.{◌≡◌, List, ℕ}
use Rattle.sessions.specs.Book.{Book, Call, answer, after}
use Rattle.sessions.specs.Keeps.{Keeps}
use Rattle.sessions.specs.declared.table.Table.{Table}
use Rattle.script.specs.Script.{reply_of}

-- the call c on the table t gives this reply, and leaves t'
pub record Steps (t : Table) (c : Call) (reply : List ℕ) (t' : Table) : Type 0 where
  pub replied : (b : Book) → Keeps t b → reply ≡ reply_of (answer b c)
  pub keeps : (b : Book) → Keeps t b → Keeps t' (after b c)
