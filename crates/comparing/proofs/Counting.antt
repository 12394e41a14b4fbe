-- How many lines two lists of extensions give: each line names a type that one of them has, and a list has no more types than elements.
-- Assumes nothing.
use mathlib.Core.Path.{◌≡◌, ap}
use mathlib.Core.Bool.{Bool, true, false}
use mathlib.Core.List.{List, [], ◌∷◌}
use mathlib.Core.Option.{Option, none, some}
use Prim.Native.Nat.{ℕ, zero, suc, ◌+◌, ◌*◌, ◌≤◌, ◌<◌}
use native.Mathlib.Omega.{arith}
use lib.Dec.{eqb}
use lib.ListN.{length}
use borrow.Author.Tests.{ne_eqb, eqb-true}
use Rattle.seqs.specs.Cases.{by_test}
use Rattle.cases.specs.Digits.{ascii, decimal}
use Rattle.cases.proofs.Decimals.{three_most, five_most}
use Rattle.hello.specs.Extensions.{Extension, content_of}
use Rattle.comparing.specs.Differences.{extension, Difference, difference, unless, alike, types_from, extension_differences}
use Rattle.comparing.specs.Comparison.{line_of, text}
use Rattle.comparing.proofs.Texts.{line_long, two_long, text_one}

-- two texts are as long as both
pub unless_most : (b : Bool) (d : Difference) → length (text (unless b d)) ≤ length (line_of d)
unfolding unless text
unless_most true d = omega arith
unless_most false d = omega (arith, ap length (text_one d))

-- a type is there once, or not at all
there : Option (List ℕ) → ℕ
there none = 0
there (some d) = 1

-- how many of n types from t on a list has
types_in : ℕ → ℕ → List Extension → ℕ
types_in zero t es = 0
types_in (suc n) t es = there (content_of t es) + types_in n (t + 1) es

none_in : (n t : ℕ) → types_in n t [] ≡ 0
unfolding types_in there content_of
none_in zero t = omega arith
none_in (suc n) t = omega (arith, none_in n (t + 1))

module _ (e : Extension) (es : List Extension) where
  -- one whose type is too low changes nothing
  lower_in : (n t : ℕ) → e.kind < t → types_in n t (e ∷ es) ≡ types_in n t es
  unfolding types_in content_of
  lower_in zero t h = omega arith
  lower_in (suc n) t h = rw (ne_eqb e.kind t (λ p. omega arith)) (omega (arith, lower_in n (t + 1) (omega arith)))

  one_in : (n t : ℕ) → types_in n t (e ∷ es) ≤ 1 + types_in n t es
  unfolding types_in there content_of
  one_in zero t = omega arith
  one_in (suc n) t =
      by_test (eqb e.kind t)
      (λ p. rw p (omega (arith, lower_in n (t + 1) (omega (arith, eqb-true e.kind t p)))))
      (λ p. rw p (omega (arith, one_in n (t + 1))))

types_in_lem : (n t : ℕ) (es : List Extension) → types_in n t es ≤ length es
types_in_lem n t [] = omega (arith, none_in n t)
types_in_lem n t (e ∷ es) = omega (arith, one_in e es n t, types_in_lem n t es)

module _ (i : ℕ) (h : i < 1000) where
  extension_most : (t : ℕ) → length (line_of (difference i (extension t))) ≤ 20
  unfolding line_of ascii
  extension_most t = omega (arith, line_long i (ascii "extension ") (decimal t), three_most i h, five_most t)

  one_type : (t : ℕ) (d e : Option (List ℕ)) → length (text (unless (alike d e) (difference i (extension t)))) ≤ 20 * (there d + there e)
  unfolding alike there text unless
  one_type t none none = omega arith
  one_type t none (some e) = omega (arith, unless_most false (difference i (extension t)), extension_most t)
  one_type t (some d) none = omega (arith, unless_most false (difference i (extension t)), extension_most t)
  one_type t (some d) (some e) = omega (arith, unless_most (alike (some d) (some e)) (difference i (extension t)), extension_most t)

  types_most : (n t : ℕ) (es fs : List Extension) → length (text (types_from i n t es fs)) ≤ 20 * (types_in n t es + types_in n t fs)
  unfolding types_from text types_in
  types_most zero t es fs = omega arith
  types_most (suc n) t es fs =
      omega
      (arith, two_long (unless (alike (content_of t es) (content_of t fs)) (difference i (extension t))) (types_from i n (t + 1) es fs), one_type t (content_of t es) (content_of t fs), types_most n (t + 1) es fs)

  pub extensions_most : (es fs : List Extension) → length (text (extension_differences i es fs)) ≤ 20 * (length es + length fs)
  unfolding extension_differences
  extensions_most es fs = omega (arith, types_most 65536 0 es fs, types_in_lem 65536 0 es, types_in_lem 65536 0 fs)
