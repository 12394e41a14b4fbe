-- Lines and texts: how long they are, and texts one behind the other.
-- Assumes nothing.
use mathlib.Core.Path.{◌≡◌, refl, sym, ◌∙◌, ap}
use mathlib.Core.Bool.{Bool}
use mathlib.Core.List.{List, [], ◌∷◌, ◌++◌, append_assoc, append-nil}
use Prim.Native.Nat.{ℕ, zero, suc, ◌+◌, ◌-◌, ◌≤◌, ◌<◌}
use native.Mathlib.Omega.{arith}
use lib.Dec.{eqb}
use lib.ListN.{length, length-append}
use Rattle.octets.specs.Same.{same}
use Rattle.cases.specs.Digits.{ascii, decimal}
use Rattle.hello.specs.Fields.{Hello}
use Rattle.comparing.specs.Differences.{first, second, field, Difference, difference, unless, field_differences, alone}
use Rattle.comparing.specs.Comparison.{line, line_of, text}
use Rattle.comparing.specs.Steps.{lines_from}
use Rattle.comparing.specs.Pages.{HasRoom, Puts}
use Rattle.comparing.specs.declared.lines.Page.{Page}
use Rattle.comparing.proofs.Putting.{puts_both}

five_long : (p₁ p₂ p₃ p₄ p₅ : List ℕ) → length (p₁ ++ p₂ ++ p₃ ++ p₄ ++ p₅) ≡ length p₁ + length p₂ + length p₃ + length p₄ + length p₅
five_long p₁ p₂ p₃ p₄ p₅ = simp length-append

pub line_long : (i : ℕ) (word of : List ℕ) → length (line i word of) ≡ length (decimal i) + 2 + length word + length of
unfolding line ascii
line_long i word of = omega (arith, five_long (decimal i) (32 ∷ []) word of (10 ∷ []))

pub text_append : (ds es : List Difference) → text (ds ++ es) ≡ text ds ++ text es
unfolding text
text_append [] es = refl
text_append (d ∷ ds) es = ap (λ (s : List ℕ). line_of d ++ s) (text_append ds es) ∙ sym (append_assoc (line_of d) (text ds) (text es))

pub two_long : (ds es : List Difference) → length (text (ds ++ es)) ≡ length (text ds) + length (text es)
two_long ds es = ap length (text_append ds es) ∙ length-append (text ds) (text es)

-- of five lists
text_five : (a b c d e : List Difference) → text (a ++ b ++ c ++ d ++ e) ≡ text a ++ text b ++ text c ++ text d ++ text e
text_five a b c d e = simp text_append

-- the lines of the fields, one behind the other
abbrev field_text : ℕ → Bool → List ℕ → List ℕ
field_text i alike name = text (unless alike (difference i (field name)))

module _ (i : ℕ) (f g : Hello) where
  pub fields_text : text (field_differences i f g)
      ≡ field_text i (eqb f.version g.version) (ascii "version")
      ++ field_text i (same f.random g.random) (ascii "random")
      ++ field_text i (same f.identifier g.identifier) (ascii "identifier")
      ++ field_text i (same f.suites g.suites) (ascii "suites")
      ++ field_text i (same f.methods g.methods) (ascii "methods")
  unfolding field_differences
  fields_text = text_five _ _ _ _ _

  pub fields_long : length (text (field_differences i f g))
      ≡ length (field_text i (eqb f.version g.version) (ascii "version"))
      + length (field_text i (same f.random g.random) (ascii "random"))
      + length (field_text i (same f.identifier g.identifier) (ascii "identifier"))
      + length (field_text i (same f.suites g.suites) (ascii "suites"))
      + length (field_text i (same f.methods g.methods) (ascii "methods"))
  fields_long = ap length fields_text ∙ simp length-append

pub text_one : (d : Difference) → text (d ∷ []) ≡ line_of d
unfolding text
text_one d = append-nil (line_of d)

-- five parts, one behind the other
pub puts_five : {p p₁ p₂ p₃ p₄ p₅ : Page} (s₁ s₂ s₃ s₄ s₅ : List ℕ) → HasRoom p (s₁ ++ s₂ ++ s₃ ++ s₄ ++ s₅)
    → Puts p s₁ p₁ → Puts p₁ s₂ p₂ → Puts p₂ s₃ p₃ → Puts p₃ s₄ p₄ → Puts p₄ s₅ p₅
    → Puts p (s₁ ++ s₂ ++ s₃ ++ s₄ ++ s₅) p₅
puts_five s₁ s₂ s₃ s₄ s₅ h a b c e f =
    let n = five_long s₁ s₂ s₃ s₄ s₅ in
    let n₃ = length-append (s₁ ++ s₂ ++ s₃) s₄ in
    let n₂ = length-append (s₁ ++ s₂) s₃ in
    let n₁ = length-append s₁ s₂ in
    puts_both (omega (arith, n, n₁, n₂, n₃)) (puts_both (omega (arith, n, n₁, n₂)) (puts_both (omega (arith, n, n₁)) (puts_both (omega (arith, n)) a b) c) e) f

-- lines of a word alone: of the messages from i on, up to one
module _ (word : List ℕ) (i to : ℕ) where
  pub lines_more : i < to → lines_from word (i + 1) (to - i) ≡ line (i + 1) word [] ++ lines_from word (i + 1 + 1) (to - (i + 1))
  unfolding lines_from
  lines_more h = let e : to - i ≡ suc (to - (i + 1)) = omega arith in rw e

  pub lines_end : to ≤ i → lines_from word (i + 1) (to - i) ≡ []
  unfolding lines_from
  lines_end h = let e : to - i ≡ 0 = omega arith in rw e

pub lines_first : (i n : ℕ) → text (alone first i n) ≡ lines_from (ascii "first") i n
unfolding text alone line_of lines_from
lines_first i zero = refl
lines_first i (suc n) = ap (λ (s : List ℕ). line i (ascii "first") [] ++ s) (lines_first (i + 1) n)

pub lines_second : (i n : ℕ) → text (alone second i n) ≡ lines_from (ascii "second") i n
unfolding text alone line_of lines_from
lines_second i zero = refl
lines_second i (suc n) = ap (λ (s : List ℕ). line i (ascii "second") [] ++ s) (lines_second (i + 1) n)
