-- The session that a store strikes out: document 01's five cases as they are put to use, and that one goes wherever the book is
-- full: of 32 sessions on six axles the axle with most has at least 6.
-- Assumes nothing.
use mathlib.Core.Path.{◌≡◌, refl}
use mathlib.Core.Bool.{true, false}
use mathlib.Core.List.{List, [], ◌∷◌}
use mathlib.Core.Logic.{⊎_elim}
use Prim.Native.Nat.{ℕ, zero, suc, ◌+◌, ◌≤◌, ◌<◌}
use native.Mathlib.Omega.{arith}
use lib.Dec.{eqb, leb, ltb}
use lib.ListN.{length}
use borrow.Author.Tests.{eqb-true, eqb-false, ltb-true, ltb-false, leb-true, leb-false}
use Rattle.seqs.specs.Pick.{pick}
use Rattle.seqs.specs.Cases.{which}
use Rattle.sessions.specs.Book.{Book, many, strike, there, is_of, is_named, holds, sought, fuller, fullest, struck}
use Rattle.sessions.specs.Keeps.{Formed, Each}
use Rattle.sessions.proofs.Books.{there_some, there_none}

one_of_six : (a : ℕ) → 1 ≤ a → a ≤ 6
    → pick (eqb a 1) 1 0 + pick (eqb a 2) 1 0 + pick (eqb a 3) 1 0 + pick (eqb a 4) 1 0 + pick (eqb a 5) 1 0 + pick (eqb a 6) 1 0 ≡ 1
one_of_six zero h k = absurd (omega arith)
one_of_six (suc zero) h k = refl
one_of_six (suc (suc zero)) h k = refl
one_of_six (suc (suc (suc zero))) h k = refl
one_of_six (suc (suc (suc (suc zero)))) h k = refl
one_of_six (suc (suc (suc (suc (suc zero))))) h k = refl
one_of_six (suc (suc (suc (suc (suc (suc zero)))))) h k = refl
one_of_six (suc (suc (suc (suc (suc (suc (suc n))))))) h k = absurd (omega arith)

-- the six axles' sessions are the book's
pub all_six : (b : Book) → Each Formed b → holds 1 b + holds 2 b + holds 3 b + holds 4 b + holds 5 b + holds 6 b ≡ length b
unfolding many is_of
all_six [] f = refl
all_six (s ∷ b) f = omega (arith, one_of_six s.axle f.0.axle_from f.0.axle_to, all_six b f.1)

at_least_first : (b : Book) (a c : ℕ) → holds a b ≤ holds (fuller b a c) b
unfolding fuller
at_least_first b a c =
    ⊎_elim
    (λ (h : ltb (holds a b) (holds c b) ≡ true). rw h (omega (arith, ltb-true (holds a b) (holds c b) h)))
    (λ (h : ltb (holds a b) (holds c b) ≡ false). rw h (omega arith))
    (which (ltb (holds a b) (holds c b)))

at_least_second : (b : Book) (a c : ℕ) → holds c b ≤ holds (fuller b a c) b
unfolding fuller
at_least_second b a c =
    ⊎_elim
    (λ (h : ltb (holds a b) (holds c b) ≡ true). rw h (omega arith))
    (λ (h : ltb (holds a b) (holds c b) ≡ false). rw h (omega (arith, ltb-false (holds a b) (holds c b) h)))
    (which (ltb (holds a b) (holds c b)))

pub fullest_six : (b : Book) → Each Formed b → 32 ≤ length b → 6 ≤ holds (fullest b) b
unfolding fullest
fullest_six b f h =
    let m2 = fuller b 1 2 in
    let m3 = fuller b m2 3 in
    let m4 = fuller b m3 4 in
    let m5 = fuller b m4 5 in
    omega
    (arith, all_six b f, at_least_first b 1 2, at_least_second b 1 2, at_least_first b m2 3, at_least_second b m2 3, at_least_first b m3 4, at_least_second b m3 4, at_least_first b m4 5, at_least_second b m4 5, at_least_first b m5 6, at_least_second b m5 6)

-- the book that is left of b, by which session went
pub data Struck (a : ℕ) (i : List ℕ) (b : Book) : Book → Type 0 where
  -- the one of that name
  renewed : 1 ≤ many (is_named a i) b → Struck a i b (strike (is_named a i) b)
  -- the axle's own oldest
  own : many (is_named a i) b ≡ 0 → 4 ≤ holds a b → Struck a i b (strike (is_of a) b)
  -- none
  room : many (is_named a i) b ≡ 0 → (holds a b ≡ 8 → ⊥) → length b < 32 → Struck a i b b
  -- the oldest of the axle with most
  other : many (is_named a i) b ≡ 0 → holds a b < 4 → 32 ≤ length b → Struck a i b (strike (is_of (fullest b)) b)

pub struck_is : (a : ℕ) (i : List ℕ) (b : Book) → Struck a i b (struck a i b)
unfolding struck
struck_is a i b =
    ⊎_elim
    (λ (h : there (sought a i b) ≡ true). rw h (renewed (there_some (is_named a i) b h)))
    (λ (h : there (sought a i b) ≡ false).
    let z = there_none (is_named a i) b h in
    ⊎_elim
    (λ (k : eqb (holds a b) 8 ≡ true). rw (h, k) (own z (omega (arith, eqb-true (holds a b) 8 k))))
    (λ (k : eqb (holds a b) 8 ≡ false).
    ⊎_elim
    (λ (l : ltb (length b) 32 ≡ true). rw (h, k, l) (room z (eqb-false (holds a b) 8 k) (ltb-true (length b) 32 l)))
    (λ (l : ltb (length b) 32 ≡ false).
    ⊎_elim
    (λ (m : leb 4 (holds a b) ≡ true). rw (h, k, l, m) (own z (leb-true 4 (holds a b) m)))
    (λ (m : leb 4 (holds a b) ≡ false). rw (h, k, l, m) (other z (leb-false 4 (holds a b) m) (ltb-false (length b) 32 l)))
    (which (leb 4 (holds a b))))
    (which (ltb (length b) 32)))
    (which (eqb (holds a b) 8)))
    (which (there (sought a i b)))
