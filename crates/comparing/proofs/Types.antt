-- Types from the lowest on: those that neither list has are passed over.
-- Assumes nothing.
use mathlib.Core.Path.{◌≡◌, refl, sym, ◌∙◌, ap, ap₂}
use mathlib.Core.Bool.{Bool, false}
use mathlib.Core.List.{List, [], ◌∷◌, ◌++◌}
use mathlib.Core.Logic.{◌⊎◌, inl, inr}
use mathlib.Core.Option.{none, some}
use Prim.Native.Nat.{ℕ, zero, suc, ◌+◌, ◌-◌, ◌≤◌, ◌<◌}
use native.Mathlib.Omega.{arith}
use lib.Dec.{eqb}
use lib.ListN.{length}
use borrow.Author.Tests.{eq-eqb, ne_eqb, eqb-true, eqb-false}
use Rattle.seqs.specs.Cases.{by_test}
use Rattle.octets.specs.Same.{same}
use Rattle.hello.specs.Extensions.{Extension, content_of}
use Rattle.hello.specs.Places.{part, behind, bytes_at}
use Rattle.comparing.specs.Differences.{extension, difference, unless, alike, types_from}
use Rattle.comparing.specs.Comparison.{text}
use Rattle.comparing.specs.Steps.{IsLowest, matched}
use Rattle.comparing.specs.Steps.{Least}
use Rattle.comparing.proofs.Putting.{Writing, writing_room}
use Rattle.comparing.specs.Pages.{HasRoom}
use Rattle.comparing.specs.declared.lines.Page.{Page}
use Rattle.comparing.proofs.Texts.{text_append}

-- the data of a type in two lists, one behind the other: the first list's, or else the second's
content_first : (t : ℕ) (d : List ℕ) (es fs : List Extension) → content_of t es ≡ some d → content_of t (es ++ fs) ≡ some d
unfolding content_of
content_first t d [] fs h = let z : ◌≡◌ {A = ℕ} 0 1 = cc in absurd (omega arith)
content_first t d (e ∷ es) fs h =
    by_test (eqb e.kind t) (λ p. rw p (rw p at h)) (λ p. rw p (content_first t d es fs (rw p at h)))

content_second : (t : ℕ) (es fs : List Extension) → content_of t es ≡ none → content_of t (es ++ fs) ≡ content_of t fs
unfolding content_of
content_second t [] fs h = refl
content_second t (e ∷ es) fs h =
    by_test (eqb e.kind t)
    (λ p. let y : some e.content ≡ none = rw p at h in let z : ◌≡◌ {A = ℕ} 0 1 = cc in absurd (omega arith))
    (λ p. rw p (content_second t es fs (rw p at h)))

content_one : (e : Extension) → content_of e.kind (e ∷ []) ≡ some e.content
unfolding content_of
content_one e = rw (eq-eqb e.kind e.kind refl)

content_other : (t : ℕ) (e : Extension) → (e.kind ≡ t → ⊥) → content_of t (e ∷ []) ≡ none
unfolding content_of
content_other t e h = rw (ne_eqb e.kind t h)

-- none is the lowest of none
pub lowest_none : (m : List ℕ) (low : ℕ) → IsLowest m [] low (record { kind = 65536; «data» = part 0 0 })
unfolding content_of
lowest_none m low = record { most = omega arith; within = omega arith; below = λ t h k. refl; here = λ h. absurd (omega arith) }

module _ (m : List ℕ) (es : List Extension) (low : ℕ) (best : Least) (e : Extension) (l : IsLowest m es low best) where
  -- one more that is too low, or not lower
  pub lowest_stays : (e.kind < low) ⊎ (best.kind ≤ e.kind) → IsLowest m (es ++ (e ∷ [])) low best
  lowest_stays c =
      record {
        most = l.most;
        within = l.within;
        below = λ t h k. content_second t es (e ∷ []) (l.below t h k) ∙ content_other t e (other c t h k);
        here = λ h. ((l.here h).0, content_first _ _ es (e ∷ []) (l.here h).1);
      }
    where
      other : (e.kind < low) ⊎ (best.kind ≤ e.kind) → (t : ℕ) → low ≤ t → t < best.kind → e.kind ≡ t → ⊥
      other (inl p) t h k q = omega arith
      other (inr p) t h k q = omega arith

  -- one that is lower
  pub lowest_falls : (next : Least) → next.kind ≡ e.kind → bytes_at m next.«data» ≡ e.content → behind next.«data» ≤ length m
      → low ≤ e.kind → e.kind < best.kind → IsLowest m (es ++ (e ∷ [])) low next
  lowest_falls next p q w h k =
      record {
        most = omega (arith, l.most, p);
        within = w;
        below = λ t i j. content_second t es (e ∷ []) (l.below t i (omega (arith, p))) ∙ content_other t e (λ z. omega (arith, p, z));
        here = λ i. (omega (arith, p), rw (p, q) (content_second e.kind es (e ∷ []) (l.below e.kind h k) ∙ content_one e));
      }

-- one type that neither list has, and k of them
none_here : (i n t : ℕ) (es fs : List Extension) → content_of t es ≡ none → content_of t fs ≡ none → types_from i (suc n) t es fs ≡ types_from i n (t + 1) es fs
unfolding types_from unless alike
none_here i n t es fs a b = rw (a, b)

skip : (i k n t : ℕ) (es fs : List Extension) → ((u : ℕ) → t ≤ u → u < t + k → content_of u es ≡ none) → ((u : ℕ) → t ≤ u → u < t + k → content_of u fs ≡ none)
    → types_from i (k + n) t es fs ≡ types_from i n (t + k) es fs
skip i zero n t es fs p q = let e : t ≡ t + 0 = omega arith in let z : 0 + n ≡ n = omega arith in ap₂ (λ (x y : ℕ). types_from i x y es fs) z e
skip i (suc k) n t es fs p q =
    let z : suc k + n ≡ suc (k + n) = omega arith in
    let y : t + 1 + k ≡ t + suc k = omega arith in
    ap (λ (x : ℕ). types_from i x t es fs) z
    ∙ none_here i (k + n) t es fs (p t (omega arith) (omega arith)) (q t (omega arith) (omega arith))
    ∙ skip i k n (t + 1) es fs (λ u h j. p u (omega arith) (omega arith)) (λ u h j. q u (omega arith) (omega arith))
    ∙ ap (λ (x : ℕ). types_from i n x es fs) y

module _ (a b : List ℕ) (es fs : List Extension) (low : ℕ) (x y : Least) (l : IsLowest a es low x) (r : IsLowest b fs low y) where
  -- both have no type below the lower one of the two
  apart : (k : ℕ) → k ≤ x.kind → k ≤ y.kind → (i n : ℕ) → low ≤ k → types_from i (k - low + n) low es fs ≡ types_from i n k es fs
  apart k p q i n h =
      let e : low + (k - low) ≡ k = omega arith in
      skip i (k - low) n low es fs (λ u g j. l.below u g (omega arith)) (λ u g j. r.below u g (omega arith))
      ∙ ap (λ (t : ℕ). types_from i n t es fs) e

  -- at the lower one they are alike where they match
  met : (k : ℕ) → k < 65536 → k ≤ x.kind → k ≤ y.kind → (k ≡ x.kind) ⊎ (k ≡ y.kind) → alike (content_of k es) (content_of k fs) ≡ matched a x b y
  unfolding alike matched
  met k h p q c =
      by_test (eqb x.kind y.kind)
      (λ t.
      let e = eqb-true _ _ t in
      let u : k ≡ x.kind = omega (arith, both c e) in
      let v : k ≡ y.kind = omega (arith, both c e, e) in
      rw (t, lefts u, rights v))
      (λ t. rw t (differ c (eqb-false _ _ t)))
    where
      both : (k ≡ x.kind) ⊎ (k ≡ y.kind) → x.kind ≡ y.kind → k ≡ x.kind
      both (inl u) e = u
      both (inr u) e = u ∙ sym e

      lefts : k ≡ x.kind → content_of k es ≡ some (bytes_at a x.«data»)
      lefts u = ap (λ (t : ℕ). content_of t es) u ∙ (l.here (omega (arith, u))).1

      rights : k ≡ y.kind → content_of k fs ≡ some (bytes_at b y.«data»)
      rights u = ap (λ (t : ℕ). content_of t fs) u ∙ (r.here (omega (arith, u))).1

      differ : (k ≡ x.kind) ⊎ (k ≡ y.kind) → (x.kind ≡ y.kind → ⊥) → alike (content_of k es) (content_of k fs) ≡ false
      differ (inl u) n =
          let g = (l.here (omega (arith, u))).0 in
          let j : k < y.kind = omega (arith, u, n) in
          rw (lefts u, r.below k (omega (arith, u, g)) j)
      differ (inr u) n =
          let g = (r.here (omega (arith, u))).0 in
          let j : k < x.kind = omega (arith, u, n) in
          rw (rights u, l.below k (omega (arith, u, g)) j)

  types_more : (i k : ℕ) → k < 65536 → low ≤ k → k ≤ x.kind → k ≤ y.kind → (k ≡ x.kind) ⊎ (k ≡ y.kind)
      → types_from i (65536 - low) low es fs ≡ unless (matched a x b y) (difference i (extension k)) ++ types_from i (65536 - (k + 1)) (k + 1) es fs
  unfolding types_from
  types_more i k h g p q c =
      let z : 65536 - low ≡ k - low + suc (65536 - (k + 1)) = omega arith in
      ap (λ (n : ℕ). types_from i n low es fs) z ∙ apart k p q i (suc (65536 - (k + 1))) g ∙ one
    where
      one : types_from i (suc (65536 - (k + 1))) k es fs ≡ unless (matched a x b y) (difference i (extension k)) ++ types_from i (65536 - (k + 1)) (k + 1) es fs
      one = rw (met k h p q c)

  -- the lower one is not below low, and its line, if there is one, comes before those of the types behind it
  pub lower_from : (k : ℕ) → k < 65536 → (k ≡ x.kind) ⊎ (k ≡ y.kind) → low ≤ k
  lower_from k h (inl u) = omega (arith, u, (l.here (omega (arith, u))).0)
  lower_from k h (inr u) = omega (arith, u, (r.here (omega (arith, u))).0)

  pub types_text : (i k : ℕ) (same : Bool) → same ≡ matched a x b y → k < 65536 → k ≤ x.kind → k ≤ y.kind → (k ≡ x.kind) ⊎ (k ≡ y.kind)
      → text (types_from i (65536 - low) low es fs) ≡ text (unless same (difference i (extension k))) ++ text (types_from i (65536 - (k + 1)) (k + 1) es fs)
  types_text i k same e h p q c =
      rw e (ap text (types_more i k h (lower_from k h c) p q c) ∙ text_append (unless (matched a x b y) (difference i (extension k))) (types_from i (65536 - (k + 1)) (k + 1) es fs))

  pub types_room : {p p₁ : Page} {whole : List ℕ} (i k : ℕ) (same : Bool) → same ≡ matched a x b y → k < 65536 → k ≤ x.kind → k ≤ y.kind → (k ≡ x.kind) ⊎ (k ≡ y.kind)
      → Writing p whole p₁ (text (types_from i (65536 - low) low es fs)) → HasRoom p₁ (text (unless same (difference i (extension k))))
  types_room i k same e h p q c w =
      writing_room (text (unless same (difference i (extension k)))) (text (types_from i (65536 - (k + 1)) (k + 1) es fs)) w (types_text i k same e h p q c)

  pub types_end : (i k : ℕ) → low ≤ 65536 → k ≡ 65536 → k ≤ x.kind → k ≤ y.kind → types_from i (65536 - low) low es fs ≡ []
  unfolding types_from
  types_end i k h e p q =
      let z : 65536 - low ≡ 65536 - low + 0 = omega arith in
      ap (λ (n : ℕ). types_from i n low es fs) z ∙ apart 65536 (omega (arith, e)) (omega (arith, e)) i 0 h

-- no type is left
pub types_done : (i low : ℕ) (es fs : List Extension) → 65536 ≤ low → types_from i (65536 - low) low es fs ≡ []
unfolding types_from
types_done i low es fs h = let z : 65536 - low ≡ 0 = omega arith in rw z
