-- The lengths and the bodies of a case from place i on: what is left of them while a loop goes through the contents.
-- Assumes nothing.
use mathlib.Core.Path.{◌≡◌, refl, ◌∙◌, ap, ap₂}
use mathlib.Core.List.{List, [], ◌∷◌}
use Prim.Native.Nat.{ℕ, zero, suc, ◌+◌, ◌-◌, ◌*◌, ◌≤◌, ◌<◌}
use native.Mathlib.Omega.{arith}
use lib.ListN.{length, take, drop, get_or}
use lib.Seq.{drop-drop, get_or-drop}
use Rattle.message.specs.Numbers.{byte_at, pair_at}
use Rattle.cases.specs.Contents.{count_of, lengths_in, lengths_of, contents_size, parts_of, bodies_of, total}

-- as many lengths as are counted, and as many parts as lengths
pub lengths_many : (n : ℕ) (s : List ℕ) → length (lengths_in n s) ≡ n
unfolding lengths_in
lengths_many zero s = refl
lengths_many (suc n) s = ap suc (lengths_many n (drop 2 s))

pub parts_many : (ns s : List ℕ) → length (parts_of ns s) ≡ length ns
unfolding parts_of
parts_many [] s = refl
parts_many (n ∷ ns) s = ap suc (parts_many ns (drop n s))

-- the lengths of the bodies from place i on
lengths_from : List ℕ → ℕ → List ℕ
lengths_from case i = lengths_in (count_of case - i) (drop (1 + 2 * i) case)

-- how many bytes they stand for
pub left : List ℕ → ℕ → ℕ
left case i = total (lengths_from case i)

-- and the bodies, the first of which begins at `at`
pub bodies_from : List ℕ → ℕ → ℕ → List (List ℕ)
bodies_from case i at = parts_of (lengths_from case i) (drop at case)

-- the length of the body at place i, and the body itself
abbrev pub size_at : List ℕ → ℕ → ℕ
size_at case i = pair_at case (1 + 2 * i)

abbrev pub body_at : List ℕ → ℕ → ℕ → List ℕ
body_at case i at = take (size_at case i) (drop at case)

pair_drop : (s : List ℕ) (k : ℕ) → pair_at (drop k s) 0 ≡ pair_at s k
unfolding pair_at byte_at
pair_drop s k =
    let a : get_or (drop k s) 0 0 ≡ get_or s k 0 = get_or-drop k s 0 0 ∙ ap (λ (n : ℕ). get_or s n 0) (omega arith) in
    let b : get_or (drop k s) 1 0 ≡ get_or s (k + 1) 0 = get_or-drop k s 1 0 in
    omega (arith, a, b)

module _ (case : List ℕ) (i : ℕ) where
  lengths_more : i < count_of case → lengths_from case i ≡ size_at case i ∷ lengths_from case (i + 1)
  unfolding lengths_from lengths_in
  lengths_more h =
      let e : count_of case - i ≡ suc (count_of case - (i + 1)) = omega arith in
      let p : 1 + 2 * i + 2 ≡ 1 + 2 * (i + 1) = omega arith in
      ap (λ (n : ℕ). lengths_in n (drop (1 + 2 * i) case)) e
      ∙ ap₂ {C = List ℕ} ◌∷◌ (pair_drop case (1 + 2 * i)) (rw (drop-drop, p))

  lengths_end : count_of case ≤ i → lengths_from case i ≡ []
  unfolding lengths_from lengths_in
  lengths_end h = let e : count_of case - i ≡ 0 = omega arith in rw e

  pub left_more : i < count_of case → left case i ≡ size_at case i + left case (i + 1)
  unfolding left total
  left_more h = rw (lengths_more h)

  pub left_end : count_of case ≤ i → left case i ≡ 0
  unfolding left total
  left_end h = rw (lengths_end h)

  pub bodies_more : (at : ℕ) → i < count_of case
      → bodies_from case i at ≡ body_at case i at ∷ bodies_from case (i + 1) (at + size_at case i)
  unfolding bodies_from parts_of
  bodies_more at h = rw (lengths_more h, drop-drop)

  pub bodies_count : (at : ℕ) → length (bodies_from case i at) ≡ count_of case - i
  unfolding bodies_from lengths_from
  bodies_count at = parts_many (lengths_from case i) (drop at case) ∙ lengths_many (count_of case - i) (drop (1 + 2 * i) case)

  pub bodies_end : (at : ℕ) → count_of case ≤ i → bodies_from case i at ≡ []
  unfolding bodies_from parts_of
  bodies_end at h = rw (lengths_end h)

module _ (case : List ℕ) where
  lengths_all : lengths_from case 0 ≡ lengths_of case
  unfolding lengths_from lengths_of
  lengths_all = let e : count_of case - 0 ≡ count_of case = omega arith in rw e

  pub left_all : left case 0 ≡ total (lengths_of case)
  unfolding left
  left_all = ap total lengths_all

  pub bodies_all : bodies_from case 0 (contents_size case) ≡ bodies_of case
  unfolding bodies_from bodies_of
  bodies_all = ap (λ (ns : List ℕ). parts_of ns (drop (contents_size case) case)) lengths_all
