-- A list of suites, two bytes each, as the chunks that it is cut to.
-- Assumes nothing.
use Rattle.std.proofs.Common.{◌≡◌, refl, ◌∙◌, ap, Bool, List, [], ◌∷◌, ◌++◌, ℕ, ◌<◌, ◌+◌, ◌*◌, eqb, ◌||◌, length, Bor, arith}
use Rattle.std.specs.List.{list_any}
use Rattle.std.specs.Slice.Iter.{chunks_exact_rest, chunks_exact_size, chunks_exact_steps}
use Rattle.std.proofs.lemmas.Iterator.{YieldsList}
use Rattle.std.proofs.lemmas.Iterator.Splits.{YieldsList-from_shown_while}
use Rattle.message.specs.Numbers.{byte_at, pair_at}
use Rattle.hello.specs.Fields.{lists}

-- two bytes each; a last byte without another is none
unfoldable pub pairs_of : List ℕ → List (List ℕ)
pairs_of [] = []
pairs_of (a ∷ []) = []
pairs_of (a ∷ b ∷ l) = (a ∷ b ∷ []) ∷ pairs_of l

pairs_none : (l : List ℕ) → length l < 2 → pairs_of l ≡ []
unfolding pairs_of
pairs_none [] h = refl
pairs_none (a ∷ []) h = refl
pairs_none (a ∷ b ∷ l) h = absurd (omega arith)

pairs_step : (x l : List ℕ) → length x ≡ 2 → pairs_of (x ++ l) ≡ x ∷ pairs_of l
unfolding pairs_of
pairs_step [] l h = absurd (omega arith)
pairs_step (a ∷ []) l h = absurd (omega arith)
pairs_step (a ∷ b ∷ []) l h = refl
pairs_step (a ∷ b ∷ c ∷ x) l h = absurd (omega arith)

-- the chunks of two, from what is left of the list
pub YieldsList-from_pairs : {s : _} (l : List ℕ) → chunks_exact_rest s ≡ l → chunks_exact_size s ≡ 2
    → YieldsList (chunks_exact_steps {A = ℕ}) (λ (x : Bor (List ℕ)). x.now) s (pairs_of l)
YieldsList-from_pairs {s} l e n =
    rw (← e)
    (YieldsList-from_shown_while (chunks_exact_steps {A = ℕ}) (λ (x : Bor (List ℕ)). x.now) (λ t. pairs_of (chunks_exact_rest t)) (λ t. chunks_exact_size t ≡ 2)
    (λ t u p h. ap length (pairs_none (chunks_exact_rest t) (omega (arith, h.1.0))))
    (λ t x u p h. (h.0 ∙ p, ap pairs_of h.1.0 ∙ pairs_step x.now (chunks_exact_rest u) (h.1.1 ∙ p))) s n)

pub lists_any : (suite : ℕ) (l : List ℕ) → list_any (λ (x : List ℕ). eqb (pair_at x 0) suite) (pairs_of l) ≡ lists suite l
unfolding lists pairs_of pair_at byte_at
lists_any suite [] = refl
lists_any suite (a ∷ []) = refl
lists_any suite (a ∷ b ∷ l) = ap (λ (t : Bool). eqb (256 * a + b) suite || t) (lists_any suite l)
