-- What a table means: the relation between the struct and the plain book. Promises speak of a table by `Keeps` alone; how
-- the sessions are laid out stands here and nowhere else.
-- Assumes nothing.
use Rattle.std.specs.Prelude.{◌≡◌, List, [], ◌∷◌, ◌++◌, map, ℕ, ◌+◌, ◌-◌, ◌*◌, ◌/◌, ◌%◌, ◌≤◌, length, take, get_or, replicate}
use Rattle.seqs.specs.Flag.{yes, bit}
use Rattle.seqs.specs.Pick.{pick}
use Rattle.sessions.specs.Book.{Session, Book, many, is_of, is_named, holds}
use Rattle.sessions.specs.declared.row.Row.{Row}
use Rattle.sessions.specs.declared.queue.Queue.{Queue}
use Rattle.sessions.specs.declared.table.Table.{Table}

-- a session that a store answered 0 can have given
pub record Formed (s : Session) : Type 0 where
  pub axle_from : 1 ≤ s.axle
  pub axle_to : s.axle ≤ 6
  pub identifier_from : 1 ≤ length s.identifier
  pub identifier_to : length s.identifier ≤ 32
  pub secret_is : length s.secret ≡ 48

-- each session of a book
abbrev pub Each : (Session → Type 0) → Book → Type 0
Each P [] = Unit {0}
Each P (s ∷ b) = P s × Each P b

-- a book that the calls can have made
pub record Sound (b : Book) : Type 0 where
  pub formed : Each Formed b
  -- no two sessions of one axle and identifier
  pub distinct : (a : ℕ) (i : List ℕ) → many (is_named a i) b ≤ 1
  -- 'No axle ever holds more than 8'
  pub eight : (a : ℕ) → holds a b ≤ 8
  -- 'and all together never more than 32'
  pub thirty_two : length b ≤ 32

-- ---- the table of a book

-- 'its axle's part of the plain book'
unfoldable pub part_of : ℕ → Book → Book
part_of a [] = []
part_of a (s ∷ b) = pick (is_of a s) (s ∷ part_of a b) (part_of a b)

-- A session in its place, the suite's first byte the high one, with zeros behind the identifier. Whose it is says the queue.
unfoldable pub row_of : Session → Row
row_of s =
    record {
      ems = bit s.ems;
      size = length s.identifier;
      suite = (s.suite / 256) ∷ (s.suite % 256) ∷ [];
      identifier = s.identifier ++ replicate (32 - length s.identifier) 0;
      secret = s.secret;
    }

-- a place that holds no session
unfoldable pub no_session : Row
no_session = record { ems = 0; size = 0; suite = replicate 2 0; identifier = replicate 32 0; secret = replicate 48 0 }

-- 'in order of storing, each with room for 8 and its number held'; what holds no session is blank
unfoldable pub laid : Book → Queue
laid b = record { rows = map row_of b ++ replicate (8 - length b) no_session; held = length b }

-- one for each axle, that of axle 1 first
abbrev pub six : {A : Type 0} → (ℕ → A) → List A
six f = f 1 ∷ f 2 ∷ f 3 ∷ f 4 ∷ f 5 ∷ f 6 ∷ []

-- 'six queues'
unfoldable pub table_of : Book → Table
table_of b = record { queues = six (λ a. laid (part_of a b)) }

-- The table t keeps the book b: it is the one value for the six parts of b, to the last byte. Books with the same six parts have
-- the same table; how the sessions of two axles stand to each other in the row is not kept.
pub record Keeps (t : Table) (b : Book) : Type 0 where
  pub table : t ≡ table_of b
  pub sound : Sound b

-- ---- a table, read

-- the session in a place of an axle's queue. `take` of more than there is is all, so that every struct value has a meaning.
unfoldable pub session_of : ℕ → Row → Session
session_of a r =
    record {
      axle = a;
      identifier = take r.size r.identifier;
      ems = yes r.ems;
      suite = 256 * get_or r.suite 0 0 + get_or r.suite 1 0;
      secret = r.secret;
    }

-- the places that count, in their order
unfoldable pub sessions_of : ℕ → Queue → Book
sessions_of a q = map (session_of a) (take q.held q.rows)

-- the queue of an axle from 1 to 6
unfoldable pub queue_at : Table → ℕ → Queue
queue_at t a = get_or t.queues (a - 1) (laid [])

-- its sessions
unfoldable pub queue_of : Table → ℕ → Book
queue_of t a = sessions_of a (queue_at t a)

-- its number held, as it is stored
unfoldable pub held_in : Table → ℕ → ℕ
held_in t a = (queue_at t a).held
