-- An extension that is found in a list stands where it was found; so do the bytes of the RI.
-- Assumes nothing.
use mathlib.Core.Path.{◌≡◌, refl, sym, ◌∙◌, ap}
use mathlib.Core.Bool.{true, false}
use mathlib.Core.List.{List, [], ◌∷◌}
use mathlib.Core.Option.{Option, none, some}
use Prim.Native.Nat.{ℕ, zero, suc, ◌+◌, ◌-◌, ◌≤◌}
use native.Mathlib.Omega.{arith}
use lib.Dec.{leb, eqb}
use lib.ListN.{length, take, drop}
use lib.Seq.{drop-drop}
use borrow.Author.Tests.{leb-true, leb-false, ne_eqb, eqb-true}
use Rattle.seqs.specs.Cases.{by_test, not_both}
use Rattle.message.specs.Numbers.{byte_at, pair_at}
use Rattle.hello.specs.Extensions.{Extension, ri_kind, shaped, has, content_of, indication_of}
use Rattle.hello.specs.Places.{part, behind, Points, part_of, bytes_part}
use Rattle.hello.specs.Cuts.{well_formed_at, list_at}
use Rattle.hello.specs.declared.parts.Part.{Part}
use Rattle.hello.proofs.Lists.{step, list_end, size_of_lem}

-- the n bytes at a place
pub points_at : (m : List ℕ) (a n : ℕ) → a + n ≤ length m → Points m (part a (length (take n (drop a m)))) (take n (drop a m))
points_at m a n h =
    let l : length (take n (drop a m)) ≡ n = size_of_lem m a n h in
    record { within = omega (arith, l); is = rw l }

-- an extension says something exactly where it is there
content_none : (t : ℕ) (es : List Extension) → has t es ≡ false → content_of t es ≡ none
unfolding has content_of
content_none t [] h = refl
content_none t (e ∷ es) h =
    by_test (eqb e.kind t)
    (λ p. not_both (rw p) h)
    (λ p. rw p (content_none t es (rw p at h)))

content_some : (t : ℕ) (es : List Extension) → has t es ≡ true → (d : List ℕ) × (content_of t es ≡ some d)
unfolding has content_of
content_some t [] h = not_both h refl
content_some t (e ∷ es) h =
    by_test (eqb e.kind t)
    (λ p. (e.content, rw p))
    (λ p. let r = content_some t es (rw p at h) in (r.0, rw p r.1))

pub ri_none : (es : List Extension) → has ri_kind es ≡ false → indication_of es ≡ none
unfolding indication_of
ri_none es h = rw (content_none ri_kind es h)

pub ri_some : (es : List Extension) → has ri_kind es ≡ true → (bytes : List ℕ) × (indication_of es ≡ some bytes)
unfolding indication_of
ri_some es h = let r = content_some ri_kind es h in (drop 1 r.0, rw r.1)

-- there are bytes exactly where there is an RI
pub ri_there : (es : List Extension) (bytes : List ℕ) → indication_of es ≡ some bytes → has ri_kind es ≡ true
ri_there es bytes e =
    by_test (has ri_kind es)
    (λ q. q)
    (λ q. let n = ri_none es q in let z : ◌≡◌ {A = ℕ} 0 1 = cc in absurd (omega arith))

pub ri_not_there : (es : List Extension) → indication_of es ≡ none → has ri_kind es ≡ false
ri_not_there es e =
    by_test (has ri_kind es)
    (λ q. let r = ri_some es q in let n = r.1 in let z : ◌≡◌ {A = ℕ} 0 1 = cc in absurd (omega arith))
    (λ q. q)

module _ (m : List ℕ) (t : ℕ) where
  nothing : {P : Type 0} (i : ℕ) (d : List ℕ) → length m ≤ i → content_of t (list_at m i) ≡ some d → P
  unfolding content_of
  nothing i d h e = let f : ◌≡◌ {A = Option (List ℕ)} none (some d) = rw (list_end m i h) at e in let z : ◌≡◌ {A = ℕ} 0 1 = cc in absurd (omega arith)

  -- the data of the first extension of type t is where it is found, and has its shape
  found_from : (k i : ℕ) (d : List ℕ) → i ≤ length m → length m - i ≤ k → well_formed_at m i ≡ true → content_of t (list_at m i) ≡ some d
      → Points m (part_of t i (list_at m i)) d × (shaped t d ≡ true)
  unfolding part_of content_of
  found_from zero i d h l w e = nothing i d (omega arith) e
  found_from (suc k) i d h l w e =
      by_test (leb (length m) i)
      (λ p. nothing i d (leb-true _ _ p) e)
      (λ p.
      let s = step m i _ _ (leb-false _ _ p) w refl refl in
      let n = pair_at m (i + 2) in
      let z : length (take n (drop (i + 4) m)) ≡ n = size_of_lem m (i + 4) n s.within in
      by_test (eqb (pair_at m i) t)
      (λ q.
      let f : some (take n (drop (i + 4) m)) ≡ some d = rw (s.list, q) at e in
      let g : take n (drop (i + 4) m) ≡ d = cc in
      rw (s.list, q, ← g) (points_at m (i + 4) n s.within, rw (eqb-true (pair_at m i) t q) at s.shape))
      (λ q.
      rw (s.list, q, z)
      (found_from k (i + 4 + n) d s.within (omega (arith, leb-false (length m) i p)) s.whole (rw (s.list, q) at e))))

  pub found : (i : ℕ) (d : List ℕ) → i ≤ length m → well_formed_at m i ≡ true → content_of t (list_at m i) ≡ some d
      → Points m (part_of t i (list_at m i)) d × (shaped t d ≡ true)
  found i d h w e = found_from (length m - i) i d h (omega arith) w e

-- a list behind its first byte
drop_one : (n : ℕ) (l : List ℕ) → take n (drop 1 l) ≡ drop 1 (take (suc n) l)
drop_one zero [] = refl
drop_one (suc n) [] = refl
drop_one zero (x ∷ l) = refl
drop_one (suc n) (x ∷ l) = refl

-- the bytes of an RI, behind its length byte
behind_length : (m : List ℕ) (p : Part) (d : List ℕ) → Points m p d → shaped ri_kind d ≡ true → Points m (bytes_part p) (drop 1 d)
unfolding bytes_part shaped
behind_length m p d x s =
    let l : length d ≡ p.length = sym (ap length x.is) ∙ size_of_lem m p.at p.length x.within in
    let c : length d ≡ 1 + byte_at d 0 = eqb-true (length d) (1 + byte_at d 0) s in
    let n : suc (p.length - 1) ≡ p.length = omega arith in
    rw (ne_eqb p.length 0 (λ z. omega arith))
    (record {
      within = omega (arith, x.within);
      is = ap (take (p.length - 1)) (sym (drop-drop 1 p.at m)) ∙ drop_one (p.length - 1) (drop p.at m) ∙ (rw (n, x.is));
    })

pub ri_points : (m : List ℕ) (i : ℕ) (bytes : List ℕ) → i ≤ length m → well_formed_at m i ≡ true → indication_of (list_at m i) ≡ some bytes
    → Points m (bytes_part (part_of ri_kind i (list_at m i))) bytes
unfolding indication_of
ri_points m i bytes h w e =
    let r = content_some ri_kind (list_at m i) (ri_there (list_at m i) bytes e) in
    let f = found m ri_kind i r.0 h w r.1 in
    let x : ◌≡◌ {A = Option (List ℕ)} (some (drop 1 r.0)) (some bytes) = rw r.1 at e in
    let y : drop 1 r.0 ≡ bytes = cc in
    rw (← y) (behind_length m _ r.0 f.0 f.1)

-- where there is no RI, an empty part at place 0 stands for it
pub nowhere : (t at : ℕ) (es : List Extension) → has t es ≡ false → part_of t at es ≡ part 0 0
unfolding has part_of
nowhere t at [] h = refl
nowhere t at (e ∷ es) h =
    by_test (eqb e.kind t)
    (λ p. not_both (rw p) h)
    (λ p. rw p (nowhere t (at + 4 + length e.content) es (rw p at h)))

pub ri_bounded : (m : List ℕ) (i : ℕ) → i ≤ length m → well_formed_at m i ≡ true → behind (bytes_part (part_of ri_kind i (list_at m i))) ≤ length m
unfolding bytes_part
ri_bounded m i h w =
    by_test (has ri_kind (list_at m i))
    (λ q. let r = ri_some (list_at m i) q in (ri_points m i r.0 h w r.1).within)
    (λ q. rw (nowhere ri_kind i (list_at m i) q) (omega arith))
