-- A hash by blocks: bytes that follow change nothing that was worked, and what is worked depends on the hash value and the rest alone.
-- Assumes nothing.
use mathlib.Core.Path.{◌≡◌, refl, sym, ◌∙◌, ap, ap₂}
use mathlib.Core.List.{List, ◌++◌}
use Prim.Native.Nat.{ℕ, zero, suc, ◌+◌, ◌*◌, ◌≤◌}
use native.Mathlib.Nat.{mul-suc, mul-add, add-suc, add-zero}
use native.Mathlib.Omega.{arith}
use lib.ListN.{length, take, drop, length-drop}
use lib.Seq.{take-append-le, drop-append-le, drop-drop}
use Rattle.seqs.specs.Blocks.{after}

module _ {S : Type 0} (size : ℕ) (step : S → List ℕ → S) where
  pub after_none : (s : S) (m : List ℕ) → s ≡ after size step s 0 m
  unfolding after
  after_none s m = refl

  -- one block more of what lies from an index on: it starts at index at
  pub after_more : (s : S) (b : List ℕ) (from k at : ℕ) → at ≡ from + size * k
      → step (after size step s k (drop from b)) (take size (drop at b)) ≡ after size step s (suc k) (drop from b)
  unfolding after
  after_more s b from k at e = rw (e, ← drop-drop)

  -- what follows the blocks does not change them
  pub after_append : (s : S) (k : ℕ) (m n : List ℕ) → size * k ≤ length m → after size step s k (m ++ n) ≡ after size step s k m
  unfolding after
  after_append s zero m n h = refl
  after_append s (suc k) m n h =
      let g : size * k + size ≤ length m = rw mul-suc at h in
      let d : size * k ≤ length m = omega arith in
      let t : size ≤ length (drop (size * k) m) = simp length-drop (omega arith) in
      ap₂ step (after_append s k m n d) (rw (drop-append-le, take-append-le))

  -- the blocks from number k on depend on the state there and on the rest of the message alone
  pub after_from : (s : S) (k j : ℕ) (m : List ℕ) → after size step s (k + j) m ≡ after size step (after size step s k m) j (drop (size * k) m)
  unfolding after
  after_from s k zero m = ap (λ (n : ℕ). after size step s n m) (add-zero k)
  after_from s k (suc j) m =
      ap (λ (n : ℕ). after size step s n m) (add-suc k j)
      ∙ ap₂ step (after_from s k j m) (ap (take size) (ap (λ (n : ℕ). drop n m) (mul-add size k j) ∙ sym (drop-drop (size * j) (size * k) m)))
