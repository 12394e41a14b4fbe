-- Document 02, order 3: 'every run of calls from empty answers as the old layout did'. This is the old layout, kept as a
-- definition: one row of 32 places and how many of them are taken, in which a session is found, counted, struck out and written
-- by its place. It computes; of the plain book it uses only the tests of a single session, the words of calls and answers, and
-- the numbers that the arguments alone decide.
-- Assumes nothing.
use Rattle.std.specs.Prelude.{Bool, false, List, [], ◌∷◌, ℕ, zero, suc, ◌+◌, ◌-◌, eqb, leb, ltb, get_or, set, replicate}
use Rattle.std.proofs.Math.Option.{Option, none, some}
use Rattle.seqs.specs.Pick.{pick}
use Rattle.refusal.specs.First.{first_of}
use Rattle.sessions.specs.Book.{Session, Call, Answer, store, look_up, withdraw, held, clear, stored, looked, withdrew, counted, cleared, there, granted, handed, is_of, is_named, bad_name, too_short, store_number, withdraw_number, held_number}

-- The table as it was: 32 places, of which the first `len` are taken, the oldest session in place 0.
pub record OneRow : Type 0 where
  pub places : List Session
  pub len : ℕ

-- what stands in a place that no session is in
unfoldable pub blank : Session
blank = record { axle = 0; identifier = []; ems = false; suite = 0; secret = replicate 48 0 }

-- The row of an empty table: every place blank, none taken.
unfoldable pub fresh_row : OneRow
fresh_row = record { places = replicate 32 blank; len = 0 }

-- what stands in place k
unfoldable pub in_place : OneRow → ℕ → Session
in_place r k = get_or r.places k blank

-- ---- going through the places

-- Of n places from k on, the first whose session meets the test; where none does, the place behind them.
unfoldable pub seek : (Session → Bool) → OneRow → ℕ → ℕ → ℕ
seek p r zero k = k
seek p r (suc n) k = pick (p (in_place r k)) k (seek p r n (suc k))

-- The place of the oldest session that meets the test, or `len`.
unfoldable pub find : (Session → Bool) → OneRow → ℕ
find p r = seek p r r.len 0

-- Of n places from k on, how many hold a session that meets the test.
unfoldable pub tally : (Session → Bool) → OneRow → ℕ → ℕ → ℕ
tally p r zero k = 0
tally p r (suc n) k = pick (p (in_place r k)) 1 0 + tally p r n (suc k)

-- How many sessions of the row meet the test.
unfoldable pub count : (Session → Bool) → OneRow → ℕ
count p r = tally p r r.len 0

-- The session of that axle and identifier, read from the place where the search stops; none where that place is not taken.
unfoldable pub found_in : ℕ → List ℕ → OneRow → Option Session
found_in a i r = let k = find (is_named a i) r in pick (ltb k r.len) (some (in_place r k)) none

-- ---- changing the places

-- Place k gets what stands in the next one, then that one likewise, n times.
unfoldable pub moved_up : ℕ → ℕ → List Session → List Session
moved_up zero k l = l
moved_up (suc n) k l = moved_up n (suc k) (set l k (get_or l (suc k) blank))

-- Without the session in place k, if that place is taken: those behind it move up, and the last taken place is blanked.
unfoldable pub without : ℕ → OneRow → OneRow
without k r =
    pick (ltb k r.len)
    (record { places = set (moved_up (r.len - suc k) k r.places) (r.len - 1) blank; len = r.len - 1 })
    r

-- With a new session, written behind the last.
unfoldable pub with_last : Session → OneRow → OneRow
with_last s r = record { places = set r.places r.len s; len = suc r.len }

-- ---- store

-- Of two axles the one that is counted more often in the row, the first at a tie.
unfoldable pub fuller_in : OneRow → ℕ → ℕ → ℕ
fuller_in r a c = pick (ltb (count (is_of a) r) (count (is_of c) r)) c a

-- The axle with most sessions, the lowest number at a tie.
unfoldable pub fullest_in : OneRow → ℕ
fullest_in r = fuller_in r (fuller_in r (fuller_in r (fuller_in r (fuller_in r 1 2) 3) 4) 5) 6

-- The place of the session that a store strikes out: the one of that name; else the axle's oldest, if it holds 8; else none, and
-- that is `len`, if a place is free; else the axle's oldest, if it holds 4 or more; else the oldest of the axle with most.
unfoldable pub victim : ℕ → List ℕ → OneRow → ℕ
victim a i r =
    let k = find (is_named a i) r in
    let n = count (is_of a) r in
    pick (ltb k r.len) k
    (pick (eqb n 8) (find (is_of a) r)
    (pick (ltb r.len 32) r.len
    (pick (leb 4 n) (find (is_of a) r)
    (find (is_of (fullest_in r)) r))))

-- ---- the calls

-- what a call is answered where the row is r
unfoldable pub answer_in : OneRow → Call → Answer
answer_in r (store s) = stored (store_number s)
answer_in r (look_up a i out) =
    let f = found_in a i r in
    let n = first_of ((11, bad_name a i) ∷ (10, too_short out f) ∷ []) in
    looked n (granted n f none) (granted n (handed out f) out)
answer_in r (withdraw a i) = let n = withdraw_number a i in withdrew n (granted n (there (found_in a i r)) false)
answer_in r (held a) = let n = held_number a in counted n (granted n (count (is_of a) r) 0)
answer_in r clear = cleared 0

-- The row after it: a refused call leaves it as it was, and a clearing is a fresh row.
unfoldable pub after_in : OneRow → Call → OneRow
after_in r (store s) = granted (store_number s) (with_last s (without (victim s.axle s.identifier r) r)) r
after_in r (look_up a i out) = r
after_in r (withdraw a i) = granted (withdraw_number a i) (without (find (is_named a i) r) r) r
after_in r (held a) = r
after_in r clear = fresh_row

-- The old layout's answers to a list of calls, one after the other.
unfoldable pub answers_in : OneRow → List Call → List Answer
answers_in r [] = []
answers_in r (c ∷ cs) = answer_in r c ∷ answers_in (after_in r c) cs
