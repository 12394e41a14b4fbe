-- A book from place i on, as a loop goes through it, and the sessions of a queue.
-- Assumes nothing.
use mathlib.Core.Path.{◌≡◌, refl, sym, ◌∙◌, ap}
use mathlib.Core.Bool.{Bool, true, false}
use mathlib.Core.List.{List, [], ◌∷◌, map}
use mathlib.Core.Logic.{⊎_elim}
use mathlib.Core.Option.{none, some}
use Prim.Native.Nat.{ℕ, suc, ◌≤◌, ◌<◌}
use native.Mathlib.Omega.{arith}
use lib.ListN.{length, take, get_or, length-take, length-map, get_or-map}
use lib.Seq.{get_or-take}
use lib.Dec.{ltb}
use borrow.Author.Tests.{ltb-true, ltb-false}
use Rattle.std.proofs.lemmas.Option.{cond_some}
use Rattle.seqs.specs.Cut.{cut}
use Rattle.seqs.specs.Cases.{which, by_test}
use Rattle.seqs.specs.Pick.{pick}
use Rattle.std.specs.Prelude.{Option, Some, None}
use Rattle.std.specs.List.{position, position_or_len}
use Rattle.std.proofs.lemmas.List.Recursion.{is_position_or_len}
use Rattle.sessions.specs.Book.{Session, Book, oldest, strike}
use Rattle.sessions.specs.Keeps.{session_of, sessions_of}
use Rattle.sessions.specs.declared.row.Row.{Row}
use Rattle.sessions.specs.declared.queue.Queue.{Queue}

-- ---- the place that a search answers

-- the place of the oldest session that meets the test, or how many sessions there are
unfoldable pub place : (Session → Bool) → Book → ℕ
place p [] = 0
place p (s ∷ b) = pick (p s) 0 (suc (place p b))

position-map : {X Y : Type 0} (p : Y → Bool) (f : X → Y) (l : List X) → position_or_len (λ x. p (f x)) l ≡ position_or_len p (map f l)
position-map p f l =
    sym (is_position_or_len (λ (l : List _). position_or_len p (map f l)) (λ x. p (f x)) refl (λ x xs. by_test (p (f x)) (λ y. rw y) (λ n. rw n)) l)

-- a search by places, of what they stand for
pub found_map : {X Y : Type 0} (p : Y → Bool) (f : X → Y) (l : List X) → position (λ x. p (f x)) l ≡ position p (map f l)
found_map p f l = rw (position-map p f l, length-map)

module _ (p : Session → Bool) (b : Book) where
  place_is : place p b ≡ position_or_len p b
  unfolding place
  place_is = is_position_or_len (place p) p refl (λ s c. by_test (p s) (λ y. rw y) (λ n. rw n (omega arith))) b

  pub found_at : (i : ℕ) → Some i ≡ position p b → (i ≡ place p b) × (i < length b)
  found_at i e =
      let f = cond_some _ _ _ (sym e) in
      let h : position_or_len p b < length b = ltb-true (position_or_len p b) (length b) f.0 in
      (omega (arith, f.1, place_is), omega (arith, f.1, h))

  pub found_none : None ≡ position p b → length b ≤ place p b
  found_none e =
      by_test (ltb (position_or_len p b) (length b))
      (λ y. let f : ◌≡◌ {A = Option ℕ} None (Some (position_or_len p b)) = rw y at e in cc)
      (λ n. omega (arith, place_is, ltb-false (position_or_len p b) (length b) n))

module _ (p : Session → Bool) where
  pub place_strike : (b : Book) → cut (place p b) b ≡ strike p b
  unfolding place strike cut
  place_strike [] = refl
  place_strike (s ∷ b) = ⊎_elim (λ y. rw y) (λ n. rw n (ap (λ (r : Book). s ∷ r) (place_strike b))) (which (p s))

  pub place_oldest : (d : Session) (b : Book) → place p b < length b → oldest p b ≡ some (get_or b (place p b) d)
  unfolding place oldest
  place_oldest d [] h = absurd (omega arith)
  place_oldest d (s ∷ b) h =
      ⊎_elim
      (λ (y : p s ≡ true). rw y)
      (λ (n : p s ≡ false). let h' : suc (place p b) < suc (length b) = rw n at h in rw n (place_oldest d b (omega arith)))
      (which (p s))

  pub place_none : (b : Book) → length b ≤ place p b → oldest p b ≡ none
  unfolding place oldest
  place_none [] h = refl
  place_none (s ∷ b) h =
      ⊎_elim
      (λ (y : p s ≡ true). let h' : suc (length b) ≤ 0 = rw y at h in absurd (omega arith))
      (λ (n : p s ≡ false). let h' : suc (length b) ≤ suc (place p b) = rw n at h in rw n (place_none b (omega arith)))
      (which (p s))

-- ---- the sessions of a queue

-- what stands past the end of an array of rows
abbrev pub no_row : Row
no_row = record { ems = 0; size = 0; suite = []; identifier = []; secret = [] }

module _ (a : ℕ) (q : Queue) where
  pub sessions_length : length (sessions_of a q) ≡ length (take q.held q.rows)
  unfolding sessions_of
  sessions_length = length-map (take q.held q.rows) (session_of a)

  module _ (i : ℕ) (h : i < length (sessions_of a q)) where
    pub session_in : get_or (sessions_of a q) i (session_of a no_row) ≡ session_of a (get_or q.rows i no_row)
    unfolding sessions_of
    session_in =
        let k : i < length (take q.held q.rows) = rw (← sessions_length) h in
        get_or-map (session_of a) (take q.held q.rows) i no_row
        ∙ ap (session_of a) (get_or-take q.held q.rows i no_row (omega (arith, length-take q.held q.rows)))
