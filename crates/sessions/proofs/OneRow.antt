-- The old layout by places answers every list of calls from empty as the plain book does: the taken places of the row are the
-- book, before and after each call.
-- Assumes nothing.
use mathlib.Core.Path.{◌≡◌, refl, sym, ◌∙◌, ap, ap₂}
use mathlib.Core.Bool.{Bool, true, false}
use mathlib.Core.List.{List, [], ◌∷◌, ◌++◌}
use mathlib.Core.Logic.{⊎_elim}
use mathlib.Core.Option.{some}
use Prim.Native.Nat.{ℕ, zero, suc, ◌+◌, ◌-◌, ◌≤◌, ◌<◌}
use native.Mathlib.Nat.{zero-add, add-zero}
use native.Mathlib.Numerals.{add-one}
use native.Mathlib.Omega.{arith}
use lib.Dec.{eqb, leb, ltb}
use lib.ListN.{length, take, drop, get_or, set, length-set, replicate, drop_of_length-le}
use lib.Seq.{length-take-le, drop-cons, get_or-take, take-set-le, take-suc-set}
use borrow.Author.Tests.{ltb-true, ltb-false}
use Rattle.seqs.specs.Cases.{which}
use Rattle.refusal.specs.First.{first_of}
use Rattle.octets.specs.Same.{same}
use Rattle.seqs.specs.Cut.{cut}
use Rattle.seqs.proofs.Cut.{cut_past, Shifted, shifted_none, shifted_more}
use Rattle.sessions.specs.Book.{Session, Book, Call, Answer, store, look_up, withdraw, held, clear, stored, looked, withdrew, counted, empty, many, oldest, there, is_of, is_name, is_named, holds, sought, fuller, fullest, struck, written, bad_axle, bad_name, bad_secret, too_short, store_number, look_up_number, withdraw_number, held_number, answer, after, answers_from}
use Rattle.sessions.specs.Keeps.{Sound}
use Rattle.sessions.specs.OneRow.{OneRow, blank, fresh_row, in_place, seek, find, tally, count, found_in, moved_up, without, with_last, fuller_in, fullest_in, victim, answer_in, after_in, answers_in}
use Rattle.sessions.proofs.Places.{place, place_strike, place_oldest, place_none}
use Rattle.sessions.proofs.Sound.{sound_empty, sound_after, struck_fits}

-- the taken places of r are the book b
record Row (r : OneRow) (b : Book) : Type 0 where
  long : length r.places ≡ 32
  room : r.len ≤ 32
  kept : take r.len r.places ≡ b

-- ---- a search and a count by places

-- whether one is there, by its place
there_place : (p : Session → Bool) (b : Book) → there (oldest p b) ≡ ltb (place p b) (length b)
there_place p b =
    ⊎_elim
    (λ (y : ltb (place p b) (length b) ≡ true). rw (y, place_oldest p blank b (ltb-true (place p b) (length b) y)))
    (λ (n : ltb (place p b) (length b) ≡ false). rw (n, place_none p b (ltb-false (place p b) (length b) n)))
    (which (ltb (place p b) (length b)))

module _ (r : OneRow) (b : Book) (w : Row r b) where
  row_size : r.len ≡ length b
  row_size =
      let h : r.len ≤ length r.places = omega (arith, w.long, w.room) in
      sym (length-take-le r.len r.places h) ∙ ap length w.kept

  row_at : (k : ℕ) → k < length b → in_place r k ≡ get_or b k blank
  unfolding in_place
  row_at k h =
      sym (get_or-take r.len r.places k blank (omega (arith, row_size)))
      ∙ ap (λ (l : List Session). get_or l k blank) w.kept

  row_seek : (p : Session → Bool) (n k : ℕ) → k + n ≡ length b → seek p r n k ≡ k + place p (drop k b)
  unfolding seek place
  row_seek p zero k e = rw (drop_of_length-le b {i = k} (omega arith)) (sym (add-zero k))
  row_seek p (suc n) k e =
      let h : k < length b = omega arith in
      rw (row_at k h, drop-cons b k blank h, row_seek p n (suc k) (omega arith))
      (⊎_elim (λ y. rw y (sym (add-zero k))) (λ f. rw f (omega arith)) (which (p (get_or b k blank))))

  row_find : (p : Session → Bool) → find p r ≡ place p b
  unfolding find
  row_find p = row_seek p r.len 0 (omega (arith, row_size)) ∙ zero-add (place p b)

  row_tally : (p : Session → Bool) (n k : ℕ) → k + n ≡ length b → tally p r n k ≡ many p (drop k b)
  unfolding tally many
  row_tally p zero k e = rw (drop_of_length-le b {i = k} (omega arith))
  row_tally p (suc n) k e =
      let h : k < length b = omega arith in
      rw (row_at k h, drop-cons b k blank h, row_tally p n (suc k) (omega arith))

  row_count : (p : Session → Bool) → count p r ≡ many p b
  unfolding count
  row_count p = row_tally p r.len 0 (omega (arith, row_size))

  row_found : (a : ℕ) (i : List ℕ) → found_in a i r ≡ sought a i b
  unfolding found_in
  row_found a i =
      let p = is_named a i in
      rw (row_find p)
      (⊎_elim
      (λ (y : ltb (place p b) r.len ≡ true).
      let h : place p b < length b = omega (arith, ltb-true (place p b) r.len y, row_size) in
      rw (y, row_at (place p b) h) (sym (place_oldest p blank b h)))
      (λ (n : ltb (place p b) r.len ≡ false).
      let h : length b ≤ place p b = omega (arith, ltb-false (place p b) r.len n, row_size) in
      rw n (sym (place_none p b h)))
      (which (ltb (place p b) r.len)))

-- ---- the places change

moved_up_lem : (l rows : List Session) (i n j : ℕ) → Shifted l rows i j → j + n < length l → Shifted l (moved_up n j rows) i (j + n)
unfolding moved_up
moved_up_lem l rows i zero j s h = rw (add-zero j) s
moved_up_lem l rows i (suc n) j s h =
    let e : suc j + n ≡ j + suc n = omega arith in
    let one : Shifted l (set rows j (get_or rows (suc j) blank)) i (suc j) = rw (← add-one j) (shifted_more l rows i j blank s (omega arith)) in
    rw (← e) (moved_up_lem l (set rows j (get_or rows (suc j) blank)) i n (suc j) one (omega arith))

module _ (r : OneRow) (b : Book) (w : Row r b) where
  -- the session in place k goes, if there is one
  row_without : (k : ℕ) → Row (without k r) (cut k b)
  unfolding without
  row_without k =
      ⊎_elim
      (λ (y : ltb k r.len ≡ true).
      let h : k < r.len = ltb-true k r.len y in
      let n = r.len - suc k in
      let e : k + n ≡ r.len - 1 = omega arith in
      let f : r.len - 1 + 1 ≡ r.len = omega arith in
      let u = moved_up n k r.places in
      let s : Shifted r.places u k (r.len - 1) =
      rw (← e) (moved_up_lem r.places r.places k n k (shifted_none r.places k (omega (arith, w.long, w.room))) (omega (arith, w.long, w.room))) in
      rw y
      (record {
        long = length-set u (r.len - 1) blank ∙ s.long ∙ w.long;
        room = omega (arith, w.room);
        kept =
            take-set-le (r.len - 1) u (r.len - 1) blank (omega arith)
            ∙ s.moved
            ∙ ap (λ (m : ℕ). cut k (take m r.places)) f
            ∙ ap (cut k) w.kept;
      }))
      (λ (y : ltb k r.len ≡ false).
      rw (y, cut_past k b (omega (arith, ltb-false k r.len y, row_size r b w))) w)
      (which (ltb k r.len))

  -- one is written behind the last
  row_last : (s : Session) → length b < 32 → Row (with_last s r) (b ++ (s ∷ []))
  unfolding with_last
  row_last s h =
      record {
        long = length-set r.places r.len s ∙ w.long;
        room = omega (arith, row_size r b w);
        kept =
            take-suc-set r.places r.len s (omega (arith, w.long, row_size r b w))
            ∙ ap (λ (l : List Session). l ++ (s ∷ [])) w.kept;
      }

  -- ---- store

  row_fuller : (a c : ℕ) → fuller_in r a c ≡ fuller b a c
  unfolding fuller_in fuller
  row_fuller a c = rw (row_count r b w (is_of a), row_count r b w (is_of c))

  row_fullest : fullest_in r ≡ fullest b
  unfolding fullest_in fullest
  row_fullest =
      let m2 = fuller b 1 2 in
      let m3 = fuller b m2 3 in
      let m4 = fuller b m3 4 in
      rw (row_fuller 1 2, row_fuller m2 3, row_fuller m3 4, row_fuller m4 5, row_fuller (fuller b m4 5) 6)

  -- what is left without the victim
  row_victim : (a : ℕ) (i : List ℕ) → cut (victim a i r) b ≡ struck a i b
  unfolding victim struck
  row_victim a i =
      let p = is_named a i in
      rw (row_find r b w p, row_find r b w (is_of a), row_fullest, row_find r b w (is_of (fullest b)), row_count r b w (is_of a), row_size r b w, there_place p b)
      (⊎_elim
      (λ (y : ltb (place p b) (length b) ≡ true). rw y (place_strike p b))
      (λ (n : ltb (place p b) (length b) ≡ false).
      ⊎_elim
      (λ (k : eqb (holds a b) 8 ≡ true). rw (n, k) (place_strike (is_of a) b))
      (λ (k : eqb (holds a b) 8 ≡ false).
      ⊎_elim
      (λ (l : ltb (length b) 32 ≡ true). rw (n, k, l) (cut_past (length b) b (omega arith)))
      (λ (l : ltb (length b) 32 ≡ false).
      ⊎_elim
      (λ (m : leb 4 (holds a b) ≡ true). rw (n, k, l, m) (place_strike (is_of a) b))
      (λ (m : leb 4 (holds a b) ≡ false). rw (n, k, l, m) (place_strike (is_of (fullest b)) b))
      (which (leb 4 (holds a b))))
      (which (ltb (length b) 32)))
      (which (eqb (holds a b) 8)))
      (which (ltb (place p b) (length b))))

row_written : (r : OneRow) (b : Book) (s : Session) → Row r b → Sound b → Row (with_last s (without (victim s.axle s.identifier r) r)) (written s b)
unfolding written
row_written r b s w g =
    let k = victim s.axle s.identifier r in
    let e : cut k b ≡ struck s.axle s.identifier b = row_victim r b w s.axle s.identifier in
    let h : length (cut k b) < 32 = rw e (omega (arith, struck_fits s.axle s.identifier b g)) in
    rw (← e) (row_last (without k r) (cut k b) (row_without r b w k) s h)

-- ---- the calls

row_fresh : Row fresh_row empty
unfolding fresh_row
row_fresh = record { long = refl; room = omega arith; kept = refl }

row_answer : (r : OneRow) (b : Book) (c : Call) → Row r b → answer_in r c ≡ answer b c
unfolding answer_in answer look_up_number
row_answer r b (store s) w = refl
row_answer r b (look_up a i out) w = rw (row_found r b w a i)
row_answer r b (withdraw a i) w = rw (row_found r b w a i)
row_answer r b (held a) w = rw (row_count r b w (is_of a))
row_answer r b clear w = refl

row_after : (r : OneRow) (b : Book) (c : Call) → Row r b → Sound b → Row (after_in r c) (after b c)
unfolding after_in after
row_after r b (store s) w g =
    ⊎_elim
    (λ (z : eqb (store_number s) 0 ≡ true). rw z (row_written r b s w g))
    (λ (z : eqb (store_number s) 0 ≡ false). rw z w)
    (which (eqb (store_number s) 0))
row_after r b (look_up a i out) w g = w
row_after r b (withdraw a i) w g =
    ⊎_elim
    (λ (z : eqb (withdraw_number a i) 0 ≡ true).
    rw (z, row_find r b w (is_named a i), ← place_strike (is_named a i) b) (row_without r b w (place (is_named a i) b)))
    (λ (z : eqb (withdraw_number a i) 0 ≡ false). rw z w)
    (which (eqb (withdraw_number a i) 0))
row_after r b (held a) w g = w
row_after r b clear w g = row_fresh

row_answers : (cs : List Call) (r : OneRow) (b : Book) → Row r b → Sound b → answers_in r cs ≡ answers_from b cs
unfolding answers_in answers_from
row_answers [] r b w g = refl
row_answers (c ∷ cs) r b w g =
    ap₂ (λ (x : Answer) (xs : List Answer). x ∷ xs) (row_answer r b c w) (row_answers cs (after_in r c) (after b c) (row_after r b c w g) (sound_after b c g))

pub one_row : (cs : List Call) → answers_in fresh_row cs ≡ answers_from empty cs
one_row cs = row_answers cs fresh_row empty row_fresh sound_empty

-- ---- it runs

-- a session for these runs, by its axle and its identifier's one byte
abbrev sample : ℕ → ℕ → Session
sample a n = record { axle = a; identifier = n ∷ []; ems = true; suite = n; secret = replicate 48 n }

-- stores of n sessions of an axle, with identifiers from n down to 1
abbrev stores_of : ℕ → ℕ → List Call
stores_of a zero = []
stores_of a (suc n) = store (sample a (suc n)) ∷ stores_of a n

-- one session comes and goes
comes_and_goes : answers_in fresh_row (store (sample 2 7) ∷ held 2 ∷ look_up 2 (7 ∷ []) (replicate 48 0) ∷ withdraw 2 (7 ∷ []) ∷ withdraw 2 (7 ∷ []) ∷ held 2 ∷ [])
    ≡ (stored 0 ∷ counted 0 1 ∷ looked 0 (some (sample 2 7)) (replicate 48 7) ∷ withdrew 0 true ∷ withdrew 0 false ∷ counted 0 0 ∷ [])
unfolding blank fresh_row in_place seek find tally count found_in moved_up without with_last fuller_in fullest_in victim answer_in after_in answers_in same is_of is_name is_named bad_axle bad_name bad_secret too_short store_number withdraw_number held_number first_of
comes_and_goes = refl

-- an axle stores a ninth session, and its oldest goes; one is renewed, and is then its newest
nine_of_an_axle : answers_in fresh_row (stores_of 3 9 ++ (held 3 ∷ withdraw 3 (9 ∷ []) ∷ store (sample 3 8) ∷ held 3 ∷ store (sample 3 9) ∷ withdraw 3 (7 ∷ []) ∷ withdraw 3 (8 ∷ []) ∷ []))
    ≡ replicate 9 (stored 0) ++ (counted 0 8 ∷ withdrew 0 false ∷ stored 0 ∷ counted 0 8 ∷ stored 0 ∷ withdrew 0 false ∷ withdrew 0 true ∷ [])
unfolding blank fresh_row in_place seek find tally count found_in moved_up without with_last fuller_in fullest_in victim answer_in after_in answers_in same is_of is_name is_named bad_axle bad_name bad_secret too_short store_number withdraw_number held_number first_of
nine_of_an_axle = refl

-- the row is full: axle 6, which holds 2, stores a third, and the oldest of axle 1 goes; axle 2, which holds 6, stores a seventh,
-- and its own oldest goes
full_row : answers_in fresh_row (stores_of 1 6 ++ stores_of 2 6 ++ stores_of 3 6 ++ stores_of 4 6 ++ stores_of 5 6 ++ stores_of 6 3 ++ (held 1 ∷ held 6 ∷ withdraw 1 (6 ∷ []) ∷ store (sample 2 7) ∷ held 2 ∷ withdraw 2 (6 ∷ []) ∷ withdraw 1 (5 ∷ []) ∷ []))
    ≡ replicate 33 (stored 0) ++ (counted 0 5 ∷ counted 0 3 ∷ withdrew 0 false ∷ stored 0 ∷ counted 0 6 ∷ withdrew 0 false ∷ withdrew 0 true ∷ [])
unfolding blank fresh_row in_place seek find tally count found_in moved_up without with_last fuller_in fullest_in victim answer_in after_in answers_in same is_of is_name is_named bad_axle bad_name bad_secret too_short store_number withdraw_number held_number first_of
full_row = refl
