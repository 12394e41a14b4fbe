-- Sessions by axle and by name: which tests go together, and which keep apart.
-- Assumes nothing.
use mathlib.Core.Path.{◌≡◌, refl, sym, ◌∙◌}
use mathlib.Core.Bool.{true, false}
use mathlib.Core.List.{List}
use mathlib.Core.Logic.{⊎_elim}
use Prim.Native.Nat.{ℕ}
use lib.Dec.{eqb}
use borrow.Author.Tests.{eqb-true, eq-eqb, ne_eqb}
use Rattle.octets.specs.Same.{same}
use Rattle.seqs.specs.Cases.{and_left, and_right, not_both, which}
use Rattle.octets.specs.Equal.{same_refl, same_true}
use Rattle.sessions.specs.Book.{Session, is_of, is_name, is_named}

pub name_axle : (a : ℕ) (i : List ℕ) (a' : ℕ) (i' : List ℕ) → is_name a i a' i' ≡ true → a' ≡ a
unfolding is_name
name_axle a i a' i' e = eqb-true a' a (and_left (eqb a' a) (same i' i) e)

pub name_identifier : (a : ℕ) (i : List ℕ) (a' : ℕ) (i' : List ℕ) → is_name a i a' i' ≡ true → i' ≡ i
unfolding is_name
name_identifier a i a' i' e = same_true i' i (and_right (eqb a' a) (same i' i) e)

pub name_refl : (a : ℕ) (i : List ℕ) → is_name a i a i ≡ true
unfolding is_name
name_refl a i = rw (eq-eqb a a refl) (same_refl i)

pub of_axle : (a : ℕ) (s : Session) → s.axle ≡ a → is_of a s ≡ true
unfolding is_of
of_axle a s e = eq-eqb s.axle a e

pub of_other : (a : ℕ) (s : Session) → (s.axle ≡ a → ⊥) → is_of a s ≡ false
unfolding is_of
of_other a s e = ne_eqb s.axle a e

pub axle_of : (a : ℕ) (s : Session) → is_of a s ≡ true → s.axle ≡ a
unfolding is_of
axle_of a s e = eqb-true s.axle a e

pub named_name : (a : ℕ) (i : List ℕ) (s : Session) → is_named a i s ≡ true → is_name a i s.axle s.identifier ≡ true
unfolding is_named
named_name a i s e = e

-- a session of the name is one of the axle
pub named_of : (a : ℕ) (i : List ℕ) (s : Session) → is_named a i s ≡ true → is_of a s ≡ true
unfolding is_named
named_of a i s e = of_axle a s (name_axle a i s.axle s.identifier e)

-- and of no other axle
pub named_other : (a : ℕ) (i : List ℕ) (c : ℕ) → (a ≡ c → ⊥) → (s : Session) → is_named a i s ≡ true → is_of c s ≡ false
unfolding is_named
named_other a i c n s e = of_other c s (λ f. n (sym (name_axle a i s.axle s.identifier e) ∙ f))

-- and of no other name
pub named_apart : (a : ℕ) (i : List ℕ) (a' : ℕ) (i' : List ℕ) → is_name a i a' i' ≡ false → (s : Session) → is_named a i s ≡ true → is_named a' i' s ≡ false
unfolding is_named
named_apart a i a' i' n s e =
    ⊎_elim
    (λ (h : is_name a' i' s.axle s.identifier ≡ true).
    let p : a' ≡ a = sym (name_axle a' i' s.axle s.identifier h) ∙ name_axle a i s.axle s.identifier e in
    let q : i' ≡ i = sym (name_identifier a' i' s.axle s.identifier h) ∙ name_identifier a i s.axle s.identifier e in
    not_both (rw (p, q) (name_refl a i)) n)
    (λ (h : is_name a' i' s.axle s.identifier ≡ false). h)
    (which (is_name a' i' s.axle s.identifier))
