-- The three lent lists and the list of extensions that they stand for: each gives back the other.
-- Assumes nothing.
use mathlib.Core.Path.{◌≡◌, refl, ap}
use mathlib.Core.Bool.{true}
use mathlib.Core.List.{List, [], ◌∷◌}
use Prim.Native.Nat.{ℕ, suc}
use native.Mathlib.Omega.{arith}
use lib.ListN.{length, drop, length-append, length-drop, take-append-drop}
use lib.Seq.{take-append_seam, drop-append_seam, length-take-le}
use borrow.Author.Tests.{eq-eqb}
use Rattle.hello.specs.Extensions.{Extension, has, twice}
use Rattle.writing.specs.Lists.{total, fitting, extensions_from, types_of, lengths_of, data_of}
use Rattle.writing.specs.Steps.{among, repeats}
use Rattle.writing.proofs.Walking.{fitting_counts, fitting_sums}

-- what is lent for a list stands for that list
pub from_lent : (es : List Extension) → extensions_from (types_of es) (lengths_of es) (data_of es) ≡ es
unfolding extensions_from types_of lengths_of data_of
from_lent [] = refl
from_lent (e ∷ es) = rw (take-append_seam e.content (data_of es), drop-append_seam e.content (data_of es), from_lent es)

-- and fits
lent_count : (es : List Extension) → length (types_of es) ≡ length (lengths_of es)
unfolding types_of lengths_of
lent_count [] = refl
lent_count (e ∷ es) = ap suc (lent_count es)

lent_total : (es : List Extension) → total (lengths_of es) ≡ length (data_of es)
unfolding total lengths_of data_of
lent_total [] = refl
lent_total (e ∷ es) = rw (length-append, lent_total es)

pub lent_fits : (es : List Extension) → fitting (types_of es) (lengths_of es) (data_of es) ≡ true
unfolding fitting
lent_fits es = rw (eq-eqb _ _ (lent_count es), eq-eqb _ _ (lent_total es))

-- the other way round, where there is a length for each type and as much data as the lengths say
types_from : (ts ns d : List ℕ) → length ts ≡ length ns → types_of (extensions_from ts ns d) ≡ ts
unfolding extensions_from types_of
types_from [] ns d h = refl
types_from (t ∷ ts) [] d h = absurd (omega arith)
types_from (t ∷ ts) (n ∷ ns) d h = ap (λ (l : List ℕ). t ∷ l) (types_from ts ns (drop n d) (omega arith))

lengths_from : (ts ns d : List ℕ) → length ts ≡ length ns → total ns ≡ length d → lengths_of (extensions_from ts ns d) ≡ ns
unfolding total extensions_from lengths_of
lengths_from [] [] d h k = refl
lengths_from [] (n ∷ ns) d h k = absurd (omega arith)
lengths_from (t ∷ ts) [] d h k = absurd (omega arith)
lengths_from (t ∷ ts) (n ∷ ns) d h k =
    rw (length-take-le n d (omega arith), lengths_from ts ns (drop n d) (omega arith) (rw length-drop (omega arith)))

data_from : (ts ns d : List ℕ) → length ts ≡ length ns → total ns ≡ length d → data_of (extensions_from ts ns d) ≡ d
unfolding total extensions_from data_of
data_from [] [] [] h k = refl
data_from [] [] (x ∷ d) h k = absurd (omega arith)
data_from [] (n ∷ ns) d h k = absurd (omega arith)
data_from (t ∷ ts) [] d h k = absurd (omega arith)
data_from (t ∷ ts) (n ∷ ns) d h k = rw (data_from ts ns (drop n d) (omega arith) (rw length-drop (omega arith))) (take-append-drop n d)

module _ (ts ns d : List ℕ) (fits : fitting ts ns d ≡ true) where
  pub types_back : types_of (extensions_from ts ns d) ≡ ts
  types_back = types_from ts ns d (fitting_counts ts ns d fits)

  pub lengths_back : lengths_of (extensions_from ts ns d) ≡ ns
  lengths_back = lengths_from ts ns d (fitting_counts ts ns d fits) (fitting_sums ts ns d fits)

  pub data_back : data_of (extensions_from ts ns d) ≡ d
  data_back = data_from ts ns d (fitting_counts ts ns d fits) (fitting_sums ts ns d fits)

-- what is asked of the types alone
pub types_count : (es : List Extension) → length (types_of es) ≡ length es
unfolding types_of
types_count [] = refl
types_count (e ∷ es) = ap suc (types_count es)

has_among : (t : ℕ) (es : List Extension) → has t es ≡ among t (types_of es)
unfolding has among types_of
has_among t [] = refl
has_among t (e ∷ es) = rw (has_among t es)

pub twice_repeats : (es : List Extension) → twice es ≡ repeats (types_of es)
unfolding twice repeats types_of
twice_repeats [] = refl
twice_repeats (e ∷ es) = rw (has_among e.kind es, twice_repeats es)
