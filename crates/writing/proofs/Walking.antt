-- Walks over the lent types, lengths and data of a list of extensions.
-- Assumes nothing.
use mathlib.Core.Path.{◌≡◌, refl, sym, ◌∙◌, ap}
use mathlib.Core.Bool.{Bool, true, false, not, ◌||◌}
use Rattle.std.specs.List.{list_any}
use mathlib.Core.List.{List, [], ◌∷◌}
use Prim.Native.Nat.{ℕ, suc, ◌+◌, ◌≤◌, ◌<◌}
use native.Mathlib.Numerals.{add-one}
use native.Mathlib.Omega.{arith}
use lib.Dec.{eqb}
use lib.ListN.{length, take, drop, get_or, length-drop, drop_of_length-le}
use lib.Seq.{drop-cons}
use borrow.Author.Tests.{eq-eqb, ne_eqb, eqb-true, eqb-false}
use Rattle.seqs.specs.Cases.{by_test, and_left, and_right}
use Rattle.hello.specs.Extensions.{Extension, shaped}
use Rattle.writing.specs.Lists.{total, fitting, extension_of, extensions_from, misshapen}
use Rattle.writing.specs.Steps.{among, repeats}

-- a test of two numbers is the test of two others where each holds with the other
eqb_same : (a b c d : ℕ) → (a ≡ b → c ≡ d) → (c ≡ d → a ≡ b) → eqb a b ≡ eqb c d
eqb_same a b c d f g =
    by_test (eqb a b)
    (λ p. p ∙ sym (eq-eqb c d (f (eqb-true a b p))))
    (λ p. p ∙ sym (ne_eqb c d (λ e. eqb-false a b p (g e))))

module _ (ns : List ℕ) (i : ℕ) where
  pub total_step : i < length ns → total (drop i ns) ≡ get_or ns i 0 + total (drop (i + 1) ns)
  unfolding total
  total_step h = rw (drop-cons ns i 0, add-one)

  pub total_end : length ns ≤ i → total (drop i ns) ≡ 0
  unfolding total
  total_end h = rw (drop_of_length-le ns)

module _ (ts ns d : List ℕ) where
  pub fits_not_count : (length ts ≡ length ns → ⊥) → false ≡ fitting ts ns d
  unfolding fitting
  fits_not_count h = rw (ne_eqb (length ts) (length ns) h)

  module _ (same : length ts ≡ length ns) where
    pub fits_not_sum : (total ns ≡ length d → ⊥) → false ≡ fitting ts ns d
    unfolding fitting
    fits_not_sum h = rw (eq-eqb (length ts) (length ns) same, ne_eqb (total ns) (length d) h)

    -- nothing is left of the data
    pub fits_left : (left : ℕ) → total ns + left ≡ length d → eqb left 0 ≡ fitting ts ns d
    unfolding fitting
    fits_left left e = rw (eq-eqb (length ts) (length ns) same) (eqb_same left 0 (total ns) (length d) (λ z. omega arith) (λ z. omega arith))

  pub fitting_counts : fitting ts ns d ≡ true → length ts ≡ length ns
  unfolding fitting
  fitting_counts e = eqb-true _ _ (and_left _ (eqb (total ns) (length d)) e)

  pub fitting_sums : fitting ts ns d ≡ true → total ns ≡ length d
  unfolding fitting
  fitting_sums e = eqb-true _ _ (and_right (eqb (length ts) (length ns)) _ e)

  pub fitting_made : length ts ≡ length ns → total ns ≡ length d → fitting ts ns d ≡ true
  unfolding fitting
  fitting_made h k = rw (eq-eqb (length ts) (length ns) h, eq-eqb (total ns) (length d) k)

-- the first extension, and those behind it
pub record First (ts ns d : List ℕ) (t n : ℕ) (ts' ns' : List ℕ) : Type 0 where
  pub room : n ≤ length d
  pub fits : fitting ts' ns' (drop n d) ≡ true
  pub list : extensions_from ts ns d ≡ extension_of t (take n d) ∷ extensions_from ts' ns' (drop n d)

pub first_of_list : (ts ns d : List ℕ) (t n : ℕ) (ts' ns' : List ℕ) → ts ≡ t ∷ ts' → ns ≡ n ∷ ns' → fitting ts ns d ≡ true → First ts ns d t n ts' ns'
unfolding extensions_from total
first_of_list ts ns d t n ts' ns' e f h =
    let c : suc (length ts') ≡ suc (length ns') = sym (ap length e) ∙ fitting_counts ts ns d h ∙ ap length f in
    let s : n + total ns' ≡ length d = sym (ap total f) ∙ fitting_sums ts ns d h in
    record {
      room = omega (arith, s);
      fits = fitting_made ts' ns' (drop n d) (omega (arith, c)) (rw length-drop (omega (arith, s)));
      list = rw (e, f) refl;
    }

pub no_list : (ts ns d : List ℕ) → length ts ≡ 0 → extensions_from ts ns d ≡ []
unfolding extensions_from
no_list [] ns d h = refl
no_list (t ∷ ts) ns d h = absurd (omega arith)

-- the shapes, one after the other
pub shapes_any : (es : List Extension) → list_any (λ (e : Extension). not (shaped e.kind e.content)) es ≡ misshapen es
unfolding misshapen
shapes_any [] = refl
shapes_any (e ∷ es) = ap (λ (b : Bool). not (shaped e.kind e.content) || b) (shapes_any es)

-- a type among others
pub among_any : (t : ℕ) (ts : List ℕ) → list_any (λ u. eqb u t) ts ≡ among t ts
unfolding among
among_any t [] = refl
among_any t (u ∷ us) = ap (λ (b : Bool). eqb u t || b) (among_any t us)

module _ (ts ts' : List ℕ) (t : ℕ) (e : ts ≡ t ∷ ts') where
  pub repeats_here : among t ts' ≡ true → repeats ts ≡ true
  unfolding repeats
  repeats_here h = rw (e, h)

  pub repeats_later : among t ts' ≡ false → repeats ts ≡ repeats ts'
  unfolding repeats
  repeats_later h = rw (e, h)

pub repeats_end : (ts : List ℕ) → length ts ≡ 0 → repeats ts ≡ false
unfolding repeats
repeats_end [] h = refl
repeats_end (t ∷ ts) h = absurd (omega arith)
