-- The tender's third condition, as one statement over every list of calls. The proofs are proofs/Demand3.antt and, that
-- there is a run for every list, proofs/Total.antt.
-- Assumes nothing.
use Rattle.std.specs.Prelude.{◌≡◌, List, [], ◌∷◌, ◌⊎◌, ℕ, ◌≤◌, ◌<◌, length, take}
use Rattle.std.proofs.Math.Option.{Option, none, some}
use Rattle.seqs.specs.Flag.{yes}
use Rattle.seqs.specs.Pick.{pick}
use Rattle.sessions.specs.Book.{Session, Call, empty, holds, store, look_up, withdraw, held, clear, stored, looked, withdrew, counted, cleared, answers_from, book_from}
use Rattle.sessions.specs.History.{Event, History, calls_of, answers_of, latest, since}
use Rattle.sessions.specs.Keeps.{Keeps}
use Rattle.sessions.specs.Promises.{Starts, Stores, LooksUp, Withdraws, CountsHeld, Clears}
use Rattle.sessions.specs.declared.table.Table.{Table}
use Rattle.sessions.specs.declared.calls.Stored.{Stored}
use Rattle.sessions.specs.declared.calls.Looked.{Looked}
use Rattle.sessions.specs.declared.calls.Withdrawn.{Withdrawn}
use Rattle.sessions.specs.declared.calls.Held.{Held}
use Rattle.sessions.specs.declared.calls.Cleared.{Cleared}

-- the session that a look-up hands back: the axle and identifier asked for, the flag and the suite returned, the 48 bytes written
abbrev pub found_by : ℕ → List ℕ → Looked → List ℕ → Option Session
found_by a i r out = pick (yes r.found) (some (record { axle = a; identifier = i; ems = yes r.ems; suite = r.suite; secret = take 48 out })) none

-- One call on a table: the table passed, the call with what it was answered, and the table afterwards. The premises are what
-- the contracts of the five calls ensure, and nothing else.
pub data Step : Table → Event → Table → Type 0 where
  storing : {t : Table} {s : Session} {r : Stored} → Stores t s r
      → Step t (record { call = store s; answer = stored r.refusal.number }) r.table
  looking : {t : Table} {a : ℕ} {i out : List ℕ} {r : Looked} {out' : List ℕ} → LooksUp t a i out r out'
      → Step t (record { call = look_up a i out; answer = looked r.refusal.number (found_by a i r out') out' }) t
  withdrawing : {t : Table} {a : ℕ} {i : List ℕ} {r : Withdrawn} → Withdraws t a i r
      → Step t (record { call = withdraw a i; answer = withdrew r.refusal.number (yes r.withdrawn) }) r.table
  counting : {t : Table} {a : ℕ} {r : Held} → CountsHeld t a r
      → Step t (record { call = held a; answer = counted r.refusal.number r.count }) t
  clearing : {t : Table} {r : Cleared} → Clears t r
      → Step t (record { call = clear; answer = cleared r.refusal.number }) r.table

-- 'Each call gets the table as the last one left it, and nobody else writes it meanwhile.'
pub data Run : Table → History → Table → Type 0 where
  done : {t : Table} → Run t [] t
  next : {t t' t'' : Table} {e : Event} {h : History} → Step t e t' → Run t' h t'' → Run t (e ∷ h) t''

-- of the calls h, answered as they were, that left the table t
pub record Demand3 (h : History) (t : Table) : Type 0 where
  -- 'each call's answer equals that of document 01's plain book: the number answered, the session found or none, whether one
  -- was withdrawn, the number held'
  pub answers : answers_of h ≡ answers_from empty (calls_of h)
  -- 'After every such list, a look-up that is not refused finds none or the session of that axle's latest store answered 0
  -- under that identifier, unaltered, with no withdrawal of it and no clearing since.'
  pub finds : (a : ℕ) (i out : List ℕ) (r : Looked) (out' : List ℕ) → LooksUp t a i out r out' → r.refusal.number ≡ 0
      → (found_by a i r out' ≡ none) ⊎ (found_by a i r out' ≡ latest a i h)
  -- 'It does find that one as long as the axle has since had fewer than four further stores answered 0.'
  pub stays : (a : ℕ) (i out : List ℕ) (r : Looked) (out' : List ℕ) → LooksUp t a i out r out' → r.refusal.number ≡ 0
      → since a i h < 4 → found_by a i r out' ≡ latest a i h
  -- the table keeps the book that the calls made
  pub keeps : Keeps t (book_from empty (calls_of h))
  -- 'No axle ever holds more than 8,'
  pub eight : (a : ℕ) → holds a (book_from empty (calls_of h)) ≤ 8
  -- 'and all together never more than 32.'
  pub thirty_two : length (book_from empty (calls_of h)) ≤ 32

-- 'Take every list of these calls, refused ones included, from a fresh, empty table .. with whatever arguments, in whatever
-- order.' Every list of calls, and not each by itself; every prefix of a list is one.
abbrev pub Theorem : Type 0
Theorem = (t t' : Table) (h : History) → Starts t → Run t h t' → Demand3 h t'

-- It speaks of every list, and not only of those that happen to have a run: from a fresh table every list of calls has one.
pub record Ran (t : Table) (cs : List Call) : Type 0 where
  pub history : History
  pub left : Table
  pub calls : calls_of history ≡ cs
  pub run : Run t history left

abbrev pub Total : Type 0
Total = (t : Table) (cs : List Call) → Starts t → Ran t cs
