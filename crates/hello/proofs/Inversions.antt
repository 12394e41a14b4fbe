-- What bytes that fit a layout are made of: each field that was taken is there.
-- Assumes nothing.
use mathlib.Core.Path.{◌≡◌, refl, sym, ◌∙◌}
use mathlib.Core.Bool.{Bool, true, false}
use mathlib.Core.List.{List}
use Prim.Native.Nat.{ℕ, ◌+◌, ◌-◌, ◌≤◌, ◌<◌}
use native.Mathlib.Omega.{arith}
use lib.Dec.{leb, eqb}
use lib.ListN.{length, take, drop, length-drop}
use lib.Seq.{drop-drop}
use borrow.Author.Tests.{leb-true, leb-false, eqb-true, eqb-false}
use Rattle.seqs.specs.Pick.{pick}
use Rattle.seqs.specs.Cases.{by_test}
use Rattle.message.specs.Numbers.{pair_at}
use Rattle.hello.specs.Layout.{Parse, malformed, parsed, Left, from, past, big, field, counted, vector}
use Rattle.hello.specs.Extensions.{Extension}
use Rattle.hello.specs.Fields.{Hello, list_place, opening, closing}
use Rattle.hello.specs.Cuts.{well_formed_at, list_at}
use Rattle.hello.proofs.Vectors.{field_yes, field_no, counted_short, counted_yes, counted_no}
use Rattle.hello.proofs.Lists.{size_of_lem, whole_end, list_end, broken_at}
use Rattle.hello.proofs.Closings.{closing_none, closing_short, closing_other, closing_bad, closing_yes}

-- what is malformed holds nothing
pub no_parsed : {A P : Type 0} {p : Parse A} {q : ℕ} {x : A} → p ≡ malformed q → p ≡ parsed x → P
no_parsed e h = let z : ◌≡◌ {A = ℕ} 0 1 = cc in absurd (omega arith)

pub pick_parsed : {A : Type 0} (b : Bool) (x : Parse A) (q : ℕ) (y : A) → pick b x (malformed q) ≡ parsed y → (b ≡ true) × (x ≡ parsed y)
pick_parsed true x q y e = (refl, e)
pick_parsed false x q y e = no_parsed refl e

module _ {A : Type 0} (x : A) (then : List ℕ → Left → Parse A) where
  pub field_at : (n : ℕ) (l : Left) → field n l then ≡ parsed x → (n ≤ length l.bytes) × (then (take n l.bytes) (past n l) ≡ parsed x)
  field_at n l e =
      by_test (leb n (length l.bytes))
      (λ p. (leb-true _ _ p, sym (field_yes then n l (leb-true _ _ p)) ∙ e))
      (λ p. no_parsed (field_no then n l (leb-false _ _ p)) e)

  -- a counted field at a place
  counted_at : (w : ℕ) (m : List ℕ) (at : ℕ) → at ≤ length m → counted w (from m at) then ≡ parsed x
      → (n : ℕ) × (at + w + n ≤ length m) × (then (take n (drop (at + w) m)) (from m (at + w + n)) ≡ parsed x)
  counted_at w m at h e =
      by_test (leb (at + w) (length m))
      (λ p.
      let n = big (take w (drop at m)) in
      by_test (leb (at + w + n) (length m))
      (λ q. (n, leb-true _ _ q, sym (counted_yes then w m at n refl (leb-true _ _ p) (leb-true _ _ q)) ∙ e))
      (λ q. no_parsed (counted_no then w m at n refl (leb-true _ _ p) (leb-false _ _ q)) e))
      (λ p. no_parsed (counted_short then w m at h (omega (arith, leb-false (at + w) (length m) p))) e)

pub vector_at : {A : Type 0} (x : A) (then : List ℕ → Left → Parse A) (w low high : ℕ) (m : List ℕ) (at : ℕ)
    → at ≤ length m → vector w low high (from m at) then ≡ parsed x
    → (n : ℕ) × (at + w + n ≤ length m) × (low ≤ n) × (n ≤ high) × (then (take n (drop (at + w) m)) (from m (at + w + n)) ≡ parsed x)
unfolding vector
vector_at x then w low high m at h e =
    let k = counted_at x (λ d r. pick (leb low (length d)) (pick (leb (length d) high) (then d r) (malformed at)) (malformed at)) w m at h e in
    let n = k.0 in
    let l : length (take n (drop (at + w) m)) ≡ n = size_of_lem m (at + w) n k.1 in
    let d = take n (drop (at + w) m) in
    let a = pick_parsed (leb low (length d)) (pick (leb (length d) high) (then d (from m (at + w + n))) (malformed at)) at x k.2 in
    let b = pick_parsed (leb (length d) high) (then d (from m (at + w + n))) at x a.1 in
    (n, k.1, leb-true low n (rw l at a.0), leb-true n high (rw l at b.0), b.1)

pub opening_at : (f : Hello) (then : List ℕ → List ℕ → List ℕ → Left → Parse Hello) (m : List ℕ) (start : ℕ) → start ≤ length m → opening (from m start) then ≡ parsed f
    → (n : ℕ) × (start + 35 + n ≤ length m) × (n ≤ 32)
    × (then (take 2 (drop start m)) (take 32 (drop (start + 2) m)) (take n (drop (start + 35) m)) (from m (start + 35 + n)) ≡ parsed f)
unfolding opening
opening_at f then m start h e =
    let a = field_at f _ 2 (from m start) e in
    let b = field_at f _ 32 (from m (start + 2)) (rw drop-drop at a.1) in
    let s : start + 2 + 32 ≡ start + 34 = omega arith in
    let t : start + 34 + 1 ≡ start + 35 = omega arith in
    let l : start + 34 ≤ length m = omega (arith, length-drop start m, length-drop (start + 2) m, a.0, b.0) in
    let v = vector_at f _ 1 0 32 m (start + 34) l (rw (drop-drop, s) at b.1) in
    (v.0, omega (arith, v.1), v.3, rw t at v.4)

pub closing_at : (f : Hello) (then : Bool → List Extension → Parse Hello) (m : List ℕ) (at : ℕ) → at ≤ length m → closing (from m at) then ≡ parsed f
    → (b : Bool) × (list_place b at ≤ length m) × (well_formed_at m (list_place b at) ≡ true) × (then b (list_at m (list_place b at)) ≡ parsed f)
closing_at f then m at h e =
    by_test (leb (length m) at)
    (λ p.
    let q = leb-true (length m) at p in
    (false, h, whole_end m at q, (rw (list_end m at q) (sym (closing_none then m at q) ∙ e))))
    (λ p.
    let s : at < length m = leb-false (length m) at p in
    by_test (leb (at + 2) (length m))
    (λ q.
    let r : at + 2 ≤ length m = leb-true _ _ q in
    by_test (eqb (pair_at m at) (length m - (at + 2)))
    (λ u.
    let y = eqb-true _ _ u in
    by_test (well_formed_at m (at + 2))
    (λ v. (true, r, v, sym (closing_yes then m at (pair_at m at) refl r y v) ∙ e))
    (λ v. let b = broken_at m (at + 2) v in no_parsed (closing_bad then m at (pair_at m at) refl r y b.0 b.1) e))
    (λ u. no_parsed (closing_other then m at (pair_at m at) refl r (eqb-false _ _ u)) e))
    (λ q. no_parsed (closing_short then m at s (omega (arith, leb-false (at + 2) (length m) q))) e))
