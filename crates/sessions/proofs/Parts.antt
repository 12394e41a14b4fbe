-- The parts of a book: what an axle's part says of the whole, and what is left of each part when a session goes or comes.
-- Assumes nothing.
use mathlib.Core.Path.{◌≡◌, refl, sym, ◌∙◌, ap}
use mathlib.Core.Bool.{Bool, true, false}
use mathlib.Core.List.{List, [], ◌∷◌, ◌++◌}
use mathlib.Core.Logic.{⊎_elim}
use Prim.Native.Nat.{ℕ, ◌+◌}
use native.Mathlib.Omega.{arith}
use lib.Dec.{eqb}
use lib.ListN.{length}
use borrow.Author.Tests.{eqb-true, eqb-false}
use Rattle.seqs.specs.Cut.{cut}
use Rattle.seqs.specs.Pick.{pick}
use Rattle.seqs.specs.Cases.{which, not_both}
use Rattle.sessions.specs.Book.{Session, Book, many, oldest, strike, is_of, is_named, holds, sought}
use Rattle.sessions.specs.Keeps.{Formed, Each, part_of}
use Rattle.sessions.proofs.Names.{axle_of, of_other, named_of}
use Rattle.sessions.proofs.Struck.{all_six}

-- ---- what an axle's part says

module _ (a : ℕ) where
  pub part_length : (b : Book) → length (part_of a b) ≡ holds a b
  unfolding part_of many
  part_length [] = refl
  part_length (s ∷ b) =
      ⊎_elim
      (λ (y : is_of a s ≡ true). rw y (omega (arith, part_length b)))
      (λ (n : is_of a s ≡ false). rw n (omega (arith, part_length b)))
      (which (is_of a s))

  -- its sessions are the axle's
  pub part_axle : (b : Book) → Each (λ (s : Session). s.axle ≡ a) (part_of a b)
  unfolding part_of
  part_axle [] = tt
  part_axle (s ∷ b) =
      ⊎_elim
      (λ (y : is_of a s ≡ true). rw y (axle_of a s y, part_axle b))
      (λ (n : is_of a s ≡ false). rw n (part_axle b))
      (which (is_of a s))

  -- of a test that only the axle's sessions meet
  module _ (p : Session → Bool) (own : (s : Session) → p s ≡ true → is_of a s ≡ true) where
    pub part_oldest : (b : Book) → oldest p (part_of a b) ≡ oldest p b
    unfolding part_of oldest
    part_oldest [] = refl
    part_oldest (s ∷ b) =
        ⊎_elim
        (λ (y : is_of a s ≡ true). rw (y, part_oldest b))
        (λ (n : is_of a s ≡ false).
        ⊎_elim
        (λ (m : p s ≡ true). not_both (own s m) n)
        (λ (m : p s ≡ false). rw (n, m) (part_oldest b))
        (which (p s)))
        (which (is_of a s))

    pub part_strike : (b : Book) → part_of a (strike p b) ≡ strike p (part_of a b)
    unfolding part_of strike
    part_strike [] = refl
    part_strike (s ∷ b) =
        ⊎_elim
        (λ (m : p s ≡ true). let y = own s m in rw (m, y, m))
        (λ (m : p s ≡ false).
        ⊎_elim
        (λ (y : is_of a s ≡ true). rw (m, y, m) (ap (λ (r : Book). s ∷ r) (part_strike b)))
        (λ (n : is_of a s ≡ false). rw (m, n) (part_strike b))
        (which (is_of a s)))
        (which (p s))

  -- of one that none of them meets
  pub part_apart : (p : Session → Bool) → ((s : Session) → p s ≡ true → is_of a s ≡ false) → (b : Book) → part_of a (strike p b) ≡ part_of a b
  unfolding part_of strike
  part_apart p other [] = refl
  part_apart p other (s ∷ b) =
      ⊎_elim
      (λ (m : p s ≡ true). let n = other s m in rw (m, n))
      (λ (m : p s ≡ false).
      ⊎_elim
      (λ (y : is_of a s ≡ true). rw (m, y) (ap (λ (r : Book). s ∷ r) (part_apart p other b)))
      (λ (n : is_of a s ≡ false). rw (m, n) (part_apart p other b))
      (which (is_of a s)))
      (which (p s))

  -- the oldest of the axle is the first of its part
  pub part_first : (b : Book) → strike (is_of a) (part_of a b) ≡ cut 0 (part_of a b)
  unfolding part_of strike cut
  part_first [] = refl
  part_first (s ∷ b) =
      ⊎_elim
      (λ (y : is_of a s ≡ true). rw (y, y))
      (λ (n : is_of a s ≡ false). rw n (part_first b))
      (which (is_of a s))

  -- one is written last
  pub part_last : (b : Book) (s : Session) → part_of a (b ++ (s ∷ [])) ≡ pick (is_of a s) (part_of a b ++ (s ∷ [])) (part_of a b)
  unfolding part_of
  part_last [] s = ⊎_elim (λ y. rw y) (λ n. rw n) (which (is_of a s))
  part_last (x ∷ b) s =
      ⊎_elim
      (λ (y : is_of a s ≡ true).
      ⊎_elim (λ (z : is_of a x ≡ true). rw (z, y, part_last b s, y)) (λ (z : is_of a x ≡ false). rw (z, y, part_last b s, y)) (which (is_of a x)))
      (λ (n : is_of a s ≡ false).
      ⊎_elim (λ (z : is_of a x ≡ true). rw (z, n, part_last b s, n)) (λ (z : is_of a x ≡ false). rw (z, n, part_last b s, n)) (which (is_of a x)))
      (which (is_of a s))

  -- an axle that there is not has none
  pub part_none : (b : Book) → ((s : Session) → Formed s → s.axle ≡ a → ⊥) → Each Formed b → part_of a b ≡ []
  unfolding part_of
  part_none [] other f = refl
  part_none (s ∷ b) other f = rw (of_other a s (other s f.0)) (part_none b other f.1)

-- the session of a name is sought in its axle's part
pub part_sought : (a : ℕ) (i : List ℕ) (b : Book) → sought a i (part_of a b) ≡ sought a i b
part_sought a i b = part_oldest a (is_named a i) (named_of a i) b

-- and the six parts are the whole
pub part_six : (b : Book) → Each Formed b
    → length (part_of 1 b) + length (part_of 2 b) + length (part_of 3 b) + length (part_of 4 b) + length (part_of 5 b) + length (part_of 6 b) ≡ length b
part_six b f = rw (part_length 1 b, part_length 2 b, part_length 3 b, part_length 4 b, part_length 5 b, part_length 6 b) (all_six b f)

-- what goes from axle f's part at place k is what the test p strikes out of it
pub part_goes : (b : Book) (f k : ℕ) (p : Session → Bool) → ((s : Session) → p s ≡ true → is_of f s ≡ true) → cut k (part_of f b) ≡ strike p (part_of f b)
    → (c : ℕ) → part_of c (strike p b) ≡ pick (eqb c f) (cut k (part_of c b)) (part_of c b)
part_goes b f k p own e c =
    ⊎_elim
    (λ (y : eqb c f ≡ true). rw (y, eqb-true c f y) (part_strike f p own b ∙ sym e))
    (λ (n : eqb c f ≡ false).
    rw n (part_apart c p (λ s m. of_other c s (λ g. eqb-false c f n (sym g ∙ axle_of f s (own s m)))) b))
    (which (eqb c f))
