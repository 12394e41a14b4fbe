-- Good and bad cases, as facts on numbers.
-- Assumes nothing.
use mathlib.Core.Path.{◌≡◌, refl}
use mathlib.Core.Bool.{Bool, true, false, ◌&&◌}
use mathlib.Core.List.{List}
use Prim.Native.Nat.{ℕ, ◌+◌, ◌≤◌, ◌<◌}
use native.Mathlib.Omega.{arith}
use lib.Dec.{leb, eqb}
use lib.ListN.{length}
use borrow.Author.Tests.{le-leb, lt-leb, leb-true, eqb-true}
use Rattle.cases.specs.Contents.{good_case, contents_size, lengths_of, total}

and_true : (a b : Bool) → (a && b) ≡ true → (a ≡ true) × (b ≡ true)
and_true true b e = (refl, e)
and_true false b e = let z : ◌≡◌ {A = ℕ} 0 1 = cc in absurd (omega arith)

module _ (case : List ℕ) where
  pub bad_long : 32768 < length case → good_case case ≡ false
  unfolding good_case
  bad_long h = rw (lt-leb (length case) 32768 h)

  pub bad_short : (length case ≤ 32768) × (length case < contents_size case) → good_case case ≡ false
  unfolding good_case
  bad_short = λ (h, k). rw (le-leb (length case) 32768 h, lt-leb (contents_size case) (length case) k)

  pub good_exact : (length case ≤ 32768) × (contents_size case ≤ length case)
      → good_case case ≡ eqb (contents_size case + total (lengths_of case)) (length case)
  unfolding good_case
  good_exact = λ (h, k). rw (le-leb (length case) 32768 h, le-leb (contents_size case) (length case) k)

  -- what a caller learns of a good case
  pub record Good : Type 0 where
    pub short : length case ≤ 32768
    pub exact : contents_size case + total (lengths_of case) ≡ length case

  pub good_learnt : good_case case ≡ true → Good
  unfolding good_case
  good_learnt e =
      let p = and_true (leb (length case) 32768 && leb (contents_size case) (length case)) _ e in
      let q = and_true (leb (length case) 32768) _ p.0 in
      record { short = leb-true _ _ q.0; exact = eqb-true _ _ p.1 }
