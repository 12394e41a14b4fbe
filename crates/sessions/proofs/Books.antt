-- A book, by tests: how many meet one, the oldest that does, the book with it struck out, and a book with one written
-- last. Of two tests: one that leaves the other's sessions alone, and one within the other.
-- Assumes nothing.
use mathlib.Core.Path.{◌≡◌, refl, sym, ◌∙◌, ap}
use mathlib.Core.Bool.{Bool, true, false, false≢true, true≢false}
use mathlib.Core.List.{[], ◌∷◌, ◌++◌}
use mathlib.Core.Logic.{◌⊎◌, inl, inr, ⊎_elim, ⊎_map}
use mathlib.Core.Option.{none, some}
use Prim.Native.Nat.{ℕ, zero, suc, ◌+◌, ◌-◌, ◌≤◌}
use native.Mathlib.Nat.{zero-add, add_assoc}
use native.Mathlib.Omega.{arith}
use lib.ListN.{length}
use Rattle.seqs.specs.Pick.{pick}
use Rattle.seqs.specs.Cases.{which}
use Rattle.sessions.specs.Book.{Session, Book, many, oldest, strike, there}
use Rattle.sessions.specs.Keeps.{Each}

pub zero_or : (n : ℕ) → (n ≡ 0) ⊎ (1 ≤ n)
zero_or zero = inl refl
zero_or (suc n) = inr (omega arith)

module _ (p : Session → Bool) where
  pub many_append : (b c : Book) → many p (b ++ c) ≡ many p b + many p c
  unfolding many
  many_append [] c = sym (zero-add (many p c))
  many_append (s ∷ b) c = rw (many_append b c) (sym (add_assoc (pick (p s) 1 0) (many p b) (many p c)))

  pub there_some : (b : Book) → there (oldest p b) ≡ true → 1 ≤ many p b
  unfolding many oldest
  there_some [] e = absurd (false≢true e)
  there_some (s ∷ b) e =
      ⊎_elim
      (λ y. rw y (omega arith))
      (λ n. rw n (omega (arith, there_some b (rw n at e))))
      (which (p s))

  pub there_none : (b : Book) → there (oldest p b) ≡ false → many p b ≡ 0
  unfolding many oldest
  there_none [] e = refl
  there_none (s ∷ b) e =
      ⊎_elim
      (λ y. absurd (true≢false (rw y at e)))
      (λ n. rw n (omega (arith, there_none b (rw n at e))))
      (which (p s))

  pub none_there : (b : Book) → many p b ≡ 0 → oldest p b ≡ none
  unfolding many oldest
  none_there [] e = refl
  none_there (s ∷ b) e =
      ⊎_elim
      (λ y. let f : 1 + many p b ≡ 0 = rw y at e in absurd (omega arith))
      (λ n. let f : 0 + many p b ≡ 0 = rw n at e in rw n (none_there b (omega arith)))
      (which (p s))

  pub strike_none : (b : Book) → many p b ≡ 0 → strike p b ≡ b
  unfolding many strike
  strike_none [] e = refl
  strike_none (s ∷ b) e =
      ⊎_elim
      (λ y. let f : 1 + many p b ≡ 0 = rw y at e in absurd (omega arith))
      (λ n. let f : 0 + many p b ≡ 0 = rw n at e in rw (n, strike_none b (omega arith)))
      (which (p s))

  pub strike_length : (b : Book) → 1 ≤ many p b → length b ≡ suc (length (strike p b))
  unfolding many strike
  strike_length [] h = absurd (omega arith)
  strike_length (s ∷ b) h =
      ⊎_elim
      (λ y. rw y)
      (λ n. let f : 1 ≤ 0 + many p b = rw n at h in rw n (ap suc (strike_length b (omega arith))))
      (which (p s))

  pub strike_shorter : (b : Book) → length (strike p b) ≤ length b
  unfolding strike
  strike_shorter [] = omega arith
  strike_shorter (s ∷ b) = ⊎_elim (λ y. rw y (omega arith)) (λ n. rw n (omega (arith, strike_shorter b))) (which (p s))

  pub append-some : (b c : Book) → 1 ≤ many p b → oldest p (b ++ c) ≡ oldest p b
  unfolding many oldest
  append-some [] c h = absurd (omega arith)
  append-some (s ∷ b) c h =
      ⊎_elim
      (λ y. rw y)
      (λ n. let f : 1 ≤ 0 + many p b = rw n at h in rw n (append-some b c (omega arith)))
      (which (p s))

  pub append-none : (b c : Book) → many p b ≡ 0 → oldest p (b ++ c) ≡ oldest p c
  unfolding many oldest
  append-none [] c e = refl
  append-none (s ∷ b) c e =
      ⊎_elim
      (λ y. let f : 1 + many p b ≡ 0 = rw y at e in absurd (omega arith))
      (λ n. let f : 0 + many p b ≡ 0 = rw n at e in rw n (append-none b c (omega arith)))
      (which (p s))

  -- one goes, of at most one: none is left
  pub strike_many : (b : Book) → many p (strike p b) ≡ many p b - 1
  unfolding many strike
  strike_many [] = refl
  strike_many (s ∷ b) = ⊎_elim (λ y. rw y (omega arith)) (λ (n : p s ≡ false). rw (n, n) (omega (arith, strike_many b))) (which (p s))

  -- one that does not meet the test is written last
  pub last_oldest : (b : Book) (s : Session) → p s ≡ false → oldest p (b ++ (s ∷ [])) ≡ oldest p b
  unfolding oldest
  last_oldest [] s n = rw n
  last_oldest (x ∷ b) s n = ap (pick (p x) (some x)) (last_oldest b s n)

  pub last_many : (b : Book) (s : Session) → many p (b ++ (s ∷ [])) ≡ many p b + pick (p s) 1 0
  unfolding many
  last_many b s = many_append b (s ∷ []) ∙ omega arith

  -- what the search finds meets the test
  pub oldest_meets : (b : Book) (s : Session) → oldest p b ≡ some s → p s ≡ true
  unfolding oldest
  oldest_meets [] s e = let z : ◌≡◌ {A = ℕ} 0 1 = cc in absurd (omega arith)
  oldest_meets (x ∷ b) s e =
      ⊎_elim
      (λ y. let f : some x ≡ some s = rw y at e in let g : x ≡ s = cc in rw g at y)
      (λ n. oldest_meets b s (rw n at e))
      (which (p x))

  pub oldest_each : (P : Session → Type 0) (b : Book) (s : Session) → Each P b → oldest p b ≡ some s → P s
  unfolding oldest
  oldest_each P [] s f e = let z : ◌≡◌ {A = ℕ} 0 1 = cc in absurd (omega arith)
  oldest_each P (x ∷ b) s f e =
      ⊎_elim
      (λ (y : p x ≡ true). let g : some x ≡ some s = rw y at e in let q : x ≡ s = cc in rw q at f.0)
      (λ (n : p x ≡ false). oldest_each P b s f.1 (rw n at e))
      (which (p x))

module _ (p q : Session → Bool) where
  pub many_strike : (b : Book) → many q (strike p b) ≤ many q b
  unfolding many strike
  many_strike [] = omega arith
  many_strike (s ∷ b) = ⊎_elim (λ y. rw y (omega arith)) (λ n. rw n (omega (arith, many_strike b))) (which (p s))

-- how many sessions that meet q stand behind the oldest that meets p
unfoldable pub behind : (Session → Bool) → (Session → Bool) → Book → ℕ
behind p q [] = 0
behind p q (s ∷ b) = pick (p s) (many q b) (behind p q b)

module _ (p q : Session → Bool) where
  pub behind_some : (b : Book) (s : Session) → 1 ≤ many p b → behind p q (b ++ (s ∷ [])) ≡ behind p q b + pick (q s) 1 0
  unfolding many behind
  behind_some [] s h = absurd (omega arith)
  behind_some (x ∷ b) s h =
      ⊎_elim
      (λ y. rw y (many_append q b (s ∷ []) ∙ omega arith))
      (λ n. let f : 1 ≤ 0 + many p b = rw n at h in rw n (behind_some b s (omega arith)))
      (which (p x))

  pub behind_none : (b : Book) (s : Session) → many p b ≡ 0 → behind p q (b ++ (s ∷ [])) ≡ 0
  unfolding many behind
  behind_none [] s e = ⊎_elim (λ y. rw y) (λ n. rw n) (which (p s))
  behind_none (x ∷ b) s e =
      ⊎_elim
      (λ y. let f : 1 + many p b ≡ 0 = rw y at e in absurd (omega arith))
      (λ n. let f : 0 + many p b ≡ 0 = rw n at e in rw n (behind_none b s (omega arith)))
      (which (p x))

  -- what meets p meets q
  module _ (sub : (s : Session) → p s ≡ true → q s ≡ true) where
    pub within_many : (b : Book) → 1 ≤ many p b → many q b ≡ suc (many q (strike p b))
    unfolding many strike
    within_many [] h = absurd (omega arith)
    within_many (s ∷ b) h =
        ⊎_elim
        (λ (y : p s ≡ true). let u = sub s y in rw (y, u) (omega arith))
        (λ n. let f : 1 ≤ 0 + many p b = rw n at h in rw n (omega (arith, within_many b (omega arith))))
        (which (p s))

    -- q's oldest goes: p's is still there with as many behind it, or it was q's oldest itself
    pub within_strike : (b : Book) → 1 ≤ many p b
        → ((oldest p (strike q b) ≡ oldest p b) × (behind p q (strike q b) ≡ behind p q b))
        ⊎ ((many q b ≡ suc (behind p q b)) × (strike q b ≡ strike p b))
    unfolding many oldest strike behind
    within_strike [] h = absurd (omega arith)
    within_strike (s ∷ b) h =
        ⊎_elim
        (λ (y : p s ≡ true). let u = sub s y in rw (y, u) (inr (omega arith, refl)))
        (λ (n : p s ≡ false). let f : 1 ≤ 0 + many p b = rw n at h in
        ⊎_elim
        (λ (u : q s ≡ true). rw (n, u) (inl (refl, refl)))
        (λ (v : q s ≡ false).
        rw (v, n)
        (⊎_map (λ w. w) (λ w. (omega (arith, w.0), ap (λ (r : Book). s ∷ r) w.1)) (within_strike b (omega arith))))
        (which (q s)))
        (which (p s))

  -- what meets p does not meet q
  module _ (apart : (s : Session) → p s ≡ true → q s ≡ false) where
    pub apart_oldest : (b : Book) → oldest p (strike q b) ≡ oldest p b
    unfolding oldest strike
    apart_oldest [] = refl
    apart_oldest (s ∷ b) =
        ⊎_elim
        (λ (y : p s ≡ true). let v = apart s y in rw (v, y))
        (λ (n : p s ≡ false). ⊎_elim (λ (u : q s ≡ true). rw (u, n)) (λ (v : q s ≡ false). rw (v, n) (apart_oldest b)) (which (q s)))
        (which (p s))

    pub apart_many : (b : Book) → many p (strike q b) ≡ many p b
    unfolding many strike
    apart_many [] = refl
    apart_many (s ∷ b) =
        ⊎_elim
        (λ (y : p s ≡ true). let v = apart s y in rw (v, y, apart_many b))
        (λ (n : p s ≡ false). ⊎_elim (λ (u : q s ≡ true). rw (u, n) (sym (zero-add _))) (λ (v : q s ≡ false). rw (v, n, apart_many b)) (which (q s)))
        (which (p s))

    pub apart_behind : (r : Session → Bool) (b : Book) → behind p r (strike q b) ≤ behind p r b
    unfolding behind strike
    apart_behind r [] = omega arith
    apart_behind r (s ∷ b) =
        ⊎_elim
        (λ (y : p s ≡ true). let v = apart s y in rw (v, y) (many_strike q r b))
        (λ (n : p s ≡ false). ⊎_elim (λ (u : q s ≡ true). rw (u, n) (omega arith)) (λ (v : q s ≡ false). rw (v, n) (apart_behind r b)) (which (q s)))
        (which (p s))
