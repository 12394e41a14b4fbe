-- The messages of two cases, number by number: those that both have, and then those that one has alone.
-- Assumes nothing.
use mathlib.Core.Path.{◌≡◌, refl, sym, ◌∙◌, ap}
use mathlib.Core.List.{List, [], ◌∷◌, ◌++◌, append-nil}
use mathlib.Core.Logic.{◌⊎◌, inl, inr}
use Prim.Native.Nat.{ℕ, ◌+◌, ◌-◌, ◌≤◌, ◌<◌}
use native.Mathlib.Omega.{arith}
use lib.ListN.{length}
use Rattle.cases.specs.Contents.{count_of, contents_size}
use Rattle.cases.specs.Digits.{ascii}
use Rattle.cases.proofs.Bodies.{size_at, body_at, bodies_from, bodies_all, bodies_more, bodies_count, bodies_end}
use Rattle.comparing.specs.Differences.{first, second, alone, message_differences, differences_from, differences}
use Rattle.comparing.specs.Comparison.{text}
use Rattle.comparing.specs.Steps.{lines_from}
use Rattle.comparing.proofs.Texts.{text_append, lines_first, lines_second}

-- what is still to be printed once i messages of each are done, and the next ones begin at p and q
pub pairs_text : List ℕ → List ℕ → ℕ → ℕ → ℕ → List ℕ
pairs_text a b i p q = text (differences_from (i + 1) (bodies_from a i p) (bodies_from b i q))

alone_first : (i : ℕ) (ms : List (List ℕ)) → differences_from i ms [] ≡ alone first i (length ms)
unfolding differences_from alone
alone_first i [] = refl
alone_first i (m ∷ ms) = refl

alone_second : (i : ℕ) (ns : List (List ℕ)) → differences_from i [] ns ≡ alone second i (length ns)
unfolding differences_from
alone_second i ns = refl

no_lines : (word : List ℕ) (i n : ℕ) → n ≡ 0 → lines_from word i n ≡ []
unfolding lines_from
no_lines word i n e = rw e

module _ (a b : List ℕ) where
  pub pairs_all : pairs_text a b 0 (contents_size a) (contents_size b) ≡ text (differences a b)
  unfolding pairs_text differences
  pairs_all = rw (bodies_all a, bodies_all b)

  module _ (i p q : ℕ) where
    pub pairs_more : i < count_of a → i < count_of b
        → pairs_text a b i p q ≡ text (message_differences (i + 1) (body_at a i p) (body_at b i q)) ++ pairs_text a b (i + 1) (p + size_at a i) (q + size_at b i)
    unfolding pairs_text differences_from
    pairs_more h k = rw (bodies_more a i p h, bodies_more b i q k) (text_append _ _)

    -- one of the two has no more
    pairs_end : (count_of a ≤ i) ⊎ (count_of b ≤ i)
        → pairs_text a b i p q ≡ lines_from (ascii "first") (i + 1) (count_of a - i) ++ lines_from (ascii "second") (i + 1) (count_of b - i)
    unfolding pairs_text
    pairs_end (inl h) =
        rw (bodies_end a i p h, no_lines (ascii "first") (i + 1) (count_of a - i) (omega arith))
        (ap text (alone_second (i + 1) (bodies_from b i q)) ∙ lines_second (i + 1) (length (bodies_from b i q)) ∙ ap (lines_from (ascii "second") (i + 1)) (bodies_count b i q))
    pairs_end (inr h) =
        rw (bodies_end b i q h, no_lines (ascii "second") (i + 1) (count_of b - i) (omega arith), append-nil)
        (ap text (alone_first (i + 1) (bodies_from a i p)) ∙ lines_first (i + 1) (length (bodies_from a i p)) ∙ ap (lines_from (ascii "first") (i + 1)) (bodies_count a i p))

-- as the code has it: m and n messages, and all those done that both have
pub pairs_done : (a b : List ℕ) (i p q m n both : ℕ) → i ≡ both → m ≡ count_of a → n ≡ count_of b → (both ≡ m) ⊎ (both ≡ n)
    → pairs_text a b i p q ≡ lines_from (ascii "first") (both + 1) (m - both) ++ lines_from (ascii "second") (both + 1) (n - both)
pairs_done a b i p q m n both e f g h = rw (f, g, sym e) (pairs_end a b i p q (which h))
  where
    which : (both ≡ m) ⊎ (both ≡ n) → (count_of a ≤ i) ⊎ (count_of b ≤ i)
    which (inl z) = inl (omega arith)
    which (inr z) = inr (omega arith)
