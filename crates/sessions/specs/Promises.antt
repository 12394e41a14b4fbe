-- What each call promises: of every struct value and whatever arguments, and more of a table that keeps a book.
-- t is the table passed, s a session, a the axle, i the identifier, and r what the call returns.
-- Assumes nothing.
use Rattle.std.specs.Prelude.{◌≡◌, Bool, false, List, ℕ}
use Rattle.std.specs.Prelude as std
use Rattle.std.proofs.Math.Option.{Option, none, some}
use Rattle.seqs.specs.Flag.{bit}
use Rattle.refusal.specs.Table.{refusal_of}
use Rattle.sessions.specs.Book.{Session, Book, empty, there, holds, sought, store_number, look_up_number, withdraw_number, held_number, granted, handed, store, withdraw, after}
use Rattle.sessions.specs.Keeps.{Keeps}
use Rattle.sessions.specs.declared.table.Table.{Table}
use Rattle.sessions.specs.declared.calls.Stored.{Stored}
use Rattle.sessions.specs.declared.calls.Looked.{Looked}
use Rattle.sessions.specs.declared.calls.Withdrawn.{Withdrawn}
use Rattle.sessions.specs.declared.calls.Held.{Held}
use Rattle.sessions.specs.declared.calls.Cleared.{Cleared}
use Rattle.sessions.specs.declared.row.Weighed.{Weighed}

-- ---- fresh: 'It begins empty.'

pub record Starts (r : Table) : Type 0 where
  pub keeps : Keeps r empty

-- ---- store, of the session s

pub record Stores (t : Table) (s : Session) (r : Stored) : Type 0 where
  -- the number with its alert is the same whatever the table is
  pub refusal : r.refusal ≡ refusal_of (store_number s)
  -- refused: the very table that was passed
  pub refused : (r.refusal.number ≡ 0 → ⊥) → r.table ≡ t
  pub keeps : (b : Book) → Keeps t b → Keeps r.table (after b (store s))

-- ---- look-up, lent an output that holds out, and out' afterwards

abbrev pub with_ems : Option Session → Bool
with_ems none = false
with_ems (some s) = s.ems

abbrev pub suite_of : Option Session → ℕ
suite_of none = 0
suite_of (some s) = s.suite

-- what is returned where the book is b
unfoldable pub looked_of : ℕ → List ℕ → List ℕ → Book → Looked
looked_of a i out b =
    let n = look_up_number a i out b in
    record {
      refusal = refusal_of n;
      found = bit (granted n (there (sought a i b)) false);
      ems = bit (granted n (with_ems (sought a i b)) false);
      suite = granted n (suite_of (sought a i b)) 0;
    }

-- and what the output then holds
unfoldable pub output_of : ℕ → List ℕ → List ℕ → Book → List ℕ
output_of a i out b = granted (look_up_number a i out b) (handed out (sought a i b)) out

-- the answer is that of the book b
pub record LookedUp (a : ℕ) (i out : List ℕ) (b : Book) (r : Looked) (out' : List ℕ) : Type 0 where
  pub returned : r ≡ looked_of a i out b
  pub output : out' ≡ output_of a i out b

pub record LooksUp (t : Table) (a : ℕ) (i out : List ℕ) (r : Looked) (out' : List ℕ) : Type 0 where
  -- whatever the table is, the answer is that of some book: one of document 01's numbers, and 11 for a bad name
  pub book : Book
  pub of_book : LookedUp a i out book r out'
  -- refused: nothing is written
  pub refused : (r.refusal.number ≡ 0 → ⊥) → out' ≡ out
  pub answers : (b : Book) → Keeps t b → LookedUp a i out b r out'

-- ---- withdrawal

-- whether one was there, where the book is b
unfoldable pub withdrawn_of : ℕ → List ℕ → Book → ℕ
withdrawn_of a i b = bit (granted (withdraw_number a i) (there (sought a i b)) false)

pub record Withdraws (t : Table) (a : ℕ) (i : List ℕ) (r : Withdrawn) : Type 0 where
  pub refusal : r.refusal ≡ refusal_of (withdraw_number a i)
  -- whatever the table is, the flag is that of some book
  pub book : Book
  pub of_book : r.withdrawn ≡ withdrawn_of a i book
  pub refused : (r.refusal.number ≡ 0 → ⊥) → r.table ≡ t
  pub answers : (b : Book) → Keeps t b → r.withdrawn ≡ withdrawn_of a i b
  pub keeps : (b : Book) → Keeps t b → Keeps r.table (after b (withdraw a i))

-- ---- number held

-- what is returned where the book is b
unfoldable pub held_of : ℕ → Book → Held
held_of a b = let n = held_number a in record { refusal = refusal_of n; count = granted n (holds a b) 0 }

pub record CountsHeld (t : Table) (a : ℕ) (r : Held) : Type 0 where
  -- whatever the table is, the answer is that of some book
  pub book : Book
  pub of_book : r ≡ held_of a book
  pub answers : (b : Book) → Keeps t b → r ≡ held_of a b

-- ---- clearing, of any table

pub record Clears (t : Table) (r : Cleared) : Type 0 where
  pub refusal : r.refusal ≡ refusal_of 0
  pub keeps : Keeps r.table empty

-- ---- what a decision asks of a session: whether there is one, with EMS or not, and its suite

abbrev pub weighed : Session → Weighed
weighed s = record { ems = bit s.ems; suite = s.suite }

abbrev pub known_of : Option Session → std.Option Weighed
known_of none = std.None
known_of (some s) = std.Some (weighed s)

pub record Knows (t : Table) (a : ℕ) (i : List ℕ) (r : std.Option Weighed) : Type 0 where
  -- whatever the table is, the answer is that of some book
  pub book : Book
  pub of_book : r ≡ known_of (sought a i book)
  pub answers : (b : Book) → Keeps t b → r ≡ known_of (sought a i b)
