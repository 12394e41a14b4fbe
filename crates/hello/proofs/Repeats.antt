-- The repeat that is found first; a type that stands twice, among those behind some others; and that there is a repeat exactly where one
-- does.
-- Assumes nothing.
use mathlib.Core.Path.{◌≡◌, refl, sym, ◌∙◌, ap}
use mathlib.Core.Bool.{Bool, true, false, not, ◌||◌}
use mathlib.Core.List.{List, [], ◌∷◌, ◌++◌}
use Prim.Native.Nat.{ℕ, ◌+◌, ◌<◌}
use native.Mathlib.Omega.{arith}
use lib.Dec.{eqb}
use lib.ListN.{length}
use borrow.Author.Tests.{eq-eqb, ne_eqb, eqb-true, eqb-false}
use Rattle.seqs.specs.Cases.{by_test}
use Rattle.hello.specs.Extensions.{Extension, has, twice, repeat_from, repeat_at}

-- behind some others, a type that stands among them is the repeat, and else it is one of them
module _ (before : List Extension) (at : ℕ) (e : Extension) (es : List Extension) where
  pub repeat_here : has e.kind before ≡ true → repeat_from before at (e ∷ es) ≡ at
  unfolding repeat_from
  repeat_here h = rw h

  pub repeat_later : (n : ℕ) → length e.content ≡ n → has e.kind before ≡ false
      → repeat_from before at (e ∷ es) ≡ repeat_from (before ++ (e ∷ [])) (at + 4 + n) es
  unfolding repeat_from
  repeat_later n s h = rw (h, s)

-- one of es has a type that stands before
unfoldable pub clash : List Extension → List Extension → Bool
clash before [] = false
clash before (e ∷ es) = has e.kind before || clash before es

or_apart : (a b c d : Bool) → ((a || (b || false)) || (c || d)) ≡ ((a || c) || (b || d))
or_apart true b c d = refl
or_apart false true true d = refl
or_apart false true false d = refl
or_apart false false true d = refl
or_apart false false false d = refl

pub or_assoc : (a b c : Bool) → ((a || b) || c) ≡ (a || (b || c))
or_assoc true b c = refl
or_assoc false b c = refl

same_kinds : (a b : ℕ) → eqb a b ≡ eqb b a
same_kinds a b =
    by_test (eqb a b)
    (λ p. p ∙ sym (eq-eqb b a (sym (eqb-true a b p))))
    (λ p. p ∙ sym (ne_eqb b a (λ z. eqb-false a b p (sym z))))

pub has_append : (t : ℕ) (a b : List Extension) → has t (a ++ b) ≡ (has t a || has t b)
unfolding has
has_append t [] b = refl
has_append t (e ∷ a) b = ap (λ (x : Bool). eqb e.kind t || x) (has_append t a b) ∙ sym (or_assoc (eqb e.kind t) (has t a) (has t b))

pub clash_more : (before : List Extension) (e : Extension) (es : List Extension) → clash (before ++ (e ∷ [])) es ≡ (clash before es || has e.kind es)
unfolding clash has
clash_more before e [] = refl
clash_more before e (f ∷ es) =
    rw (has_append f.kind before (e ∷ []), clash_more before e es, same_kinds e.kind f.kind)
    (or_apart (has f.kind before) (eqb f.kind e.kind) (clash before es) (has e.kind es))

pub clash_none : (es : List Extension) → clash [] es ≡ false
unfolding clash has
clash_none [] = refl
clash_none (e ∷ es) = clash_none es

repeat_found : (before : List Extension) (at : ℕ) (es : List Extension) → 0 < at → not (eqb (repeat_from before at es) 0) ≡ (clash before es || twice es)
unfolding repeat_from clash twice
repeat_found before at [] h = refl
repeat_found before at (e ∷ es) h =
    by_test (has e.kind before)
    (λ p. rw (repeat_here before at e es p, p, ne_eqb at 0 (λ z. omega arith)))
    (λ p.
    rw (repeat_later before at e es _ refl p, p)
    (repeat_found (before ++ (e ∷ [])) (at + 4 + length e.content) es (omega arith)
    ∙ (rw (clash_more before e es) (or_assoc (clash before es) (has e.kind es) (twice es)))))

-- there is a repeat exactly where a type stands twice
pub repeat_twice : (at : ℕ) (es : List Extension) → 0 < at → not (eqb (repeat_at at es) 0) ≡ twice es
repeat_twice at es h = repeat_found [] at es h ∙ (rw (clash_none es))
