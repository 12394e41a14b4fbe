-- Books with the same six parts: what is asked of the one is answered as by the other, and a call leaves them so. How the sessions
-- of two axles stand to each other in the row decides nothing.
-- Assumes nothing.
use mathlib.Core.Path.{◌≡◌, refl, sym, ◌∙◌, ap}
use mathlib.Core.Bool.{Bool, true, false}
use mathlib.Core.List.{List, [], ◌∷◌, ◌++◌}
use mathlib.Core.Logic.{⊎_elim}
use Prim.Native.Nat.{ℕ, ◌≤◌}
use native.Mathlib.Omega.{arith}
use lib.Dec.{eqb, leb, ltb}
use lib.ListN.{length}
use borrow.Author.Tests.{eqb-true, eqb-false, leb-true, leb-false}
use Rattle.seqs.specs.Cases.{which}
use Rattle.sessions.specs.Book.{Session, Book, strike, there, is_of, is_named, holds, sought, fuller, fullest, struck, written, store_number, withdraw_number, Call, store, look_up, withdraw, held, clear, after}
use Rattle.sessions.specs.Keeps.{Formed, Sound, part_of, table_of, Keeps}
use Rattle.sessions.specs.declared.table.Table.{Table}
use Rattle.sessions.proofs.Names.{of_other, axle_of, named_of}
use Rattle.sessions.proofs.Parts.{part_length, part_strike, part_apart, part_last, part_none, part_sought, part_six}
use Rattle.sessions.proofs.Queues.{queue_sessions}

abbrev pub Alike : Book → Book → Type 0
Alike b b' = (a : ℕ) → part_of a b ≡ part_of a b'

-- ---- what is asked

module _ (b b' : Book) (k : Alike b b') where
  pub alike_sought : (a : ℕ) (i : List ℕ) → sought a i b ≡ sought a i b'
  alike_sought a i = sym (part_sought a i b) ∙ ap (sought a i) (k a) ∙ part_sought a i b'

  pub alike_holds : (a : ℕ) → holds a b ≡ holds a b'
  alike_holds a = sym (part_length a b) ∙ ap length (k a) ∙ part_length a b'

  alike_fuller : (a c : ℕ) → fuller b a c ≡ fuller b' a c
  unfolding fuller
  alike_fuller a c = rw (alike_holds a, alike_holds c)

  alike_fullest : fullest b ≡ fullest b'
  unfolding fullest
  alike_fullest =
      let m2 = fuller b' 1 2 in
      let m3 = fuller b' m2 3 in
      let m4 = fuller b' m3 4 in
      rw (alike_fuller 1 2, alike_fuller m2 3, alike_fuller m3 4, alike_fuller m4 5, alike_fuller (fuller b' m4 5) 6)

  alike_length : Sound b → Sound b' → length b ≡ length b'
  alike_length g g' = sym (part_six b g.formed) ∙ (rw (k 1, k 2, k 3, k 4, k 5, k 6) (part_six b' g'.formed))

  -- ---- what a call leaves

  -- a test that one axle's sessions alone meet
  alike_strike : (f : ℕ) (p : Session → Bool) → ((s : Session) → p s ≡ true → is_of f s ≡ true) → Alike (strike p b) (strike p b')
  alike_strike f p own c =
      ⊎_elim
      (λ (y : eqb c f ≡ true).
      let e = eqb-true c f y in
      rw (e, part_strike f p own b, part_strike f p own b', k f))
      (λ (n : eqb c f ≡ false).
      let other : (s : Session) → p s ≡ true → is_of c s ≡ false = λ s m. of_other c s (λ g. eqb-false c f n (sym g ∙ axle_of f s (own s m))) in
      part_apart c p other b ∙ k c ∙ sym (part_apart c p other b'))
      (which (eqb c f))

  alike_struck : (a : ℕ) (i : List ℕ) → Sound b → Sound b' → Alike (struck a i b) (struck a i b')
  unfolding struck
  alike_struck a i g g' c =
      rw (alike_sought a i, alike_holds a, alike_length g g', alike_fullest)
      (⊎_elim
      (λ (y : there (sought a i b') ≡ true). rw y (alike_strike a (is_named a i) (named_of a i) c))
      (λ (n : there (sought a i b') ≡ false).
      ⊎_elim
      (λ (x : eqb (holds a b') 8 ≡ true). rw (n, x) (alike_strike a (is_of a) (λ s m. m) c))
      (λ (x : eqb (holds a b') 8 ≡ false).
      ⊎_elim
      (λ (l : ltb (length b') 32 ≡ true). rw (n, x, l) (k c))
      (λ (l : ltb (length b') 32 ≡ false).
      ⊎_elim
      (λ (m : leb 4 (holds a b') ≡ true). rw (n, x, l, m) (alike_strike a (is_of a) (λ s z. z) c))
      (λ (m : leb 4 (holds a b') ≡ false). rw (n, x, l, m) (alike_strike (fullest b') (is_of (fullest b')) (λ s z. z) c))
      (which (leb 4 (holds a b'))))
      (which (ltb (length b') 32)))
      (which (eqb (holds a b') 8)))
      (which (there (sought a i b'))))

alike_last : (b b' : Book) (s : Session) → Alike b b' → Alike (b ++ (s ∷ [])) (b' ++ (s ∷ []))
alike_last b b' s k a = rw (part_last a b s, part_last a b' s, k a)

pub alike_after : (b b' : Book) (c : Call) → Alike b b' → Sound b → Sound b' → Alike (after b c) (after b' c)
unfolding after written
alike_after b b' (store s) k g g' a =
    ⊎_elim
    (λ (z : eqb (store_number s) 0 ≡ true).
    rw z
    (alike_last (struck s.axle s.identifier b) (struck s.axle s.identifier b') s (alike_struck b b' k s.axle s.identifier g g') a))
    (λ (z : eqb (store_number s) 0 ≡ false). rw z (k a))
    (which (eqb (store_number s) 0))
alike_after b b' (look_up a i out) k g g' c = k c
alike_after b b' (withdraw a i) k g g' c =
    ⊎_elim
    (λ (z : eqb (withdraw_number a i) 0 ≡ true). rw z (alike_strike b b' k a (is_named a i) (named_of a i) c))
    (λ (z : eqb (withdraw_number a i) 0 ≡ false). rw z (k c))
    (which (eqb (withdraw_number a i) 0))
alike_after b b' (held a) k g g' c = k c
alike_after b b' clear k g g' c = refl

-- ---- one table

pub alike_table : (b b' : Book) → Alike b b' → table_of b ≡ table_of b'
unfolding table_of
alike_table b b' k = rw (k 1, k 2, k 3, k 4, k 5, k 6)

within : (a : ℕ) (b b' : Book) → table_of b ≡ table_of b' → 1 ≤ a → a ≤ 6 → part_of a b ≡ part_of a b'
within a b b' e from to = sym (queue_sessions (table_of b) b refl a from to) ∙ queue_sessions (table_of b) b' e a from to

-- the books that one table keeps are alike
pub table_alike : (b b' : Book) → Sound b → Sound b' → table_of b ≡ table_of b' → Alike b b'
table_alike b b' g g' e a =
    ⊎_elim
    (λ (y : leb 1 a ≡ true).
    ⊎_elim
    (λ (z : leb a 6 ≡ true). within a b b' e (leb-true 1 a y) (leb-true a 6 z))
    (λ (z : leb a 6 ≡ false).
    let none : (s : Session) → Formed s → s.axle ≡ a → ⊥ = λ s f x. omega (arith, leb-false a 6 z, f.axle_to, x) in
    part_none a b none g.formed ∙ sym (part_none a b' none g'.formed))
    (which (leb a 6)))
    (λ (y : leb 1 a ≡ false).
    let none : (s : Session) → Formed s → s.axle ≡ a → ⊥ = λ s f x. omega (arith, leb-false 1 a y, f.axle_from, x) in
    part_none a b none g.formed ∙ sym (part_none a b' none g'.formed))
    (which (leb 1 a))

-- ---- the table of a book

pub keeps_table : (b : Book) → Sound b → Keeps (table_of b) b
keeps_table b g = record { table = refl; sound = g }

module _ (t : Table) (b b' : Book) (k : Keeps t b) (k' : Keeps t b') where
  pub kept_alike : Alike b b'
  kept_alike = table_alike b b' k.sound k'.sound (sym k.table ∙ k'.table)

  -- it has one session of a name, whichever book one asks
  pub kept_sought : (a : ℕ) (i : List ℕ) → sought a i b ≡ sought a i b'
  kept_sought = alike_sought b b' kept_alike
