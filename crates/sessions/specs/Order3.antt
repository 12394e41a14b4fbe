-- Order 3, as one statement over every list of calls: 'lay the sessions out as six queues in order of storing, each with room for
-- 8 and its number held, still with 32 in all. Prove that every run of calls from empty answers as the old layout did and leaves
-- in each queue its axle's part of the plain book.' The proofs are proofs/Order3.antt's.
-- Assumes nothing.
use Rattle.std.specs.Prelude.{◌≡◌, List, ℕ, ◌+◌, ◌≤◌, ◌<◌, length, get_or}
use Rattle.sessions.specs.Book.{Call, empty, book_from}
use Rattle.sessions.specs.History.{History, calls_of, answers_of}
use Rattle.sessions.specs.Keeps.{part_of, no_session, table_of, queue_at, queue_of, held_in}
use Rattle.sessions.specs.OneRow.{fresh_row, answers_in}
use Rattle.sessions.specs.Promises.{Starts}
use Rattle.sessions.specs.Demand3.{Run, Ran}
use Rattle.sessions.specs.declared.row.Row.{Row}
use Rattle.sessions.specs.declared.table.Table.{Table}

-- of the calls h, answered as they were, that left the table t
pub record Order3 (h : History) (t : Table) : Type 0 where
  -- 'answers as the old layout did': every answer, by the old layout's own definition
  pub as_before : answers_of h ≡ answers_in fresh_row (calls_of h)
  -- 'leaves in each queue its axle's part of the plain book': complete sessions, in order of storing
  pub queues : (a : ℕ) → 1 ≤ a → a ≤ 6 → queue_of t a ≡ part_of a (book_from empty (calls_of h))
  -- 'each with .. its number held': the number stored beside a queue is how many it holds,
  pub counted : (a : ℕ) → 1 ≤ a → a ≤ 6 → held_in t a ≡ length (queue_of t a)
  -- of 'room for 8',
  pub room : (a : ℕ) → 1 ≤ a → a ≤ 6 → held_in t a ≤ 8
  -- 'still with 32 in all'
  pub all : held_in t 1 + held_in t 2 + held_in t 3 + held_in t 4 + held_in t 5 + held_in t 6 ≤ 32
  -- every place behind them is blank,
  pub blank : (a k : ℕ) (r : Row) → 1 ≤ a → a ≤ 6 → held_in t a ≤ k → k < 8 → get_or (queue_at t a).rows k r ≡ no_session
  -- and to the last byte the table is that of the six parts: of a session given up nothing is left, its secret least of all
  pub whole : t ≡ table_of (book_from empty (calls_of h))

-- 'every run of calls from empty': every list of them, refused ones included, with whatever arguments. A run's steps are what the
-- calls' contracts ensure.
abbrev pub Theorem : Type 0
Theorem = (t t' : Table) (h : History) → Starts t → Run t h t' → Order3 h t'

-- It speaks of every list: from a fresh table each has a run (specs/Demand3.antt's `Total`), and so leaves such a table.
abbrev pub Met : Type 0
Met = (t : Table) (cs : List Call) → Starts t → (r : Ran t cs) × Order3 r.history r.left
