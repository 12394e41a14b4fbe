-- The number of each call, by the tests that the code makes in their order.
-- Assumes nothing.
use mathlib.Core.Path.{◌≡◌, refl}
use mathlib.Core.Bool.{not}
use mathlib.Core.Logic.{◌⊎◌, inl, inr}
use mathlib.Core.List.{[], ◌∷◌}
use Prim.Native.Nat.{ℕ, ◌≤◌, ◌<◌}
use borrow.Author.Tests.{ltb-false, eqb-true, not-false, lt-ltb, le-ltb, eq-eqb, ne_eqb}
use lib.Dec.{ltb, eqb}
use Rattle.refusal.specs.First.{first_of}
use Rattle.refusal.proofs.First.{first_zero}
use Rattle.prf.specs.Promise.{hmac_number, secret_number, verify_number}

module _ (k m : ℕ) where
  pub hmac_over : (65536 < k) ⊎ ((k ≤ 65536) × (65536 < m)) → hmac_number k m ≡ 10
  unfolding hmac_number first_of
  hmac_over (inl h) = rw (lt-ltb 65536 k h)
  hmac_over (inr (g, h)) = rw (le-ltb 65536 k g, lt-ltb 65536 m h)

  pub hmac_done : k ≤ 65536 → m ≤ 65536 → hmac_number k m ≡ 0
  unfolding hmac_number first_of
  hmac_done g h = rw (le-ltb 65536 k g, le-ltb 65536 m h)

module _ (due p s o : ℕ) where
  pub secret_over : (p < 1) ⊎ (((1 ≤ p) × (512 < p)) ⊎ (((1 ≤ p) × (p ≤ 512) × (s ≡ due → ⊥)) ⊎ ((1 ≤ p) × (p ≤ 512) × (s ≡ due) × (o < 48)))) → secret_number due p s o ≡ 10
  unfolding secret_number first_of
  secret_over (inl h) = rw (lt-ltb p 1 h)
  secret_over (inr (inl (f, h))) = rw (le-ltb p 1 f, lt-ltb 512 p h)
  secret_over (inr (inr (inl (f, g, h)))) = rw (le-ltb p 1 f, le-ltb 512 p g, ne_eqb s due h)
  secret_over (inr (inr (inr (f, g, e, h)))) = rw (le-ltb p 1 f, le-ltb 512 p g, eq-eqb s due e, lt-ltb o 48 h)

  pub secret_done : 1 ≤ p → p ≤ 512 → s ≡ due → 48 ≤ o → secret_number due p s o ≡ 0
  unfolding secret_number first_of
  secret_done f g e h = rw (le-ltb p 1 f, le-ltb 512 p g, eq-eqb s due e, le-ltb o 48 h)

-- a call that answers 0 is within its lengths
pub secret_within : (due p s o : ℕ) → secret_number due p s o ≡ 0 → (1 ≤ p) × (p ≤ 512) × (s ≡ due) × (48 ≤ o)
unfolding secret_number
secret_within due p s o z =
    let t = first_zero ((10, ltb p 1) ∷ (10, ltb 512 p) ∷ (10, not (eqb s due)) ∷ (10, ltb o 48) ∷ []) refl z in
    (ltb-false p 1 t.0, ltb-false 512 p t.1.0, eqb-true s due (not-false _ t.1.1.0), ltb-false o 48 t.1.1.1.0)

pub verify_other : (n : ℕ) → (n ≡ 48 → ⊥) → verify_number n ≡ 10
unfolding verify_number first_of
verify_other n h = rw (ne_eqb n 48 h)

pub verify_done : (n : ℕ) → n ≡ 48 → verify_number n ≡ 0
unfolding verify_number first_of
verify_done n h = rw (eq-eqb n 48 h)
