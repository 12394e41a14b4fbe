-- The answers, by their numbers.
-- Assumes nothing.
use mathlib.Core.Path.{◌≡◌, refl}
use mathlib.Core.List.{List, ◌++◌}
use Prim.Native.Nat.{ℕ}
use lib.ListN.{length, drop, replicate}
use Rattle.std.specs.Prelude.{⊤, Result, Err}
use Rattle.refusal.specs.Table.{refusal_of}
use Rattle.refusal.specs.Reason.{refusal_for, refusal_in}
use Rattle.refusal.specs.declared.reason.Reason.{Reason}
use Rattle.refusal.specs.declared.reason.Reason.TheVariants.{Length}
use Rattle.refusal.specs.declared.Refusal.{Refusal}
use Rattle.prf.specs.Hash.{HashFunction, SHA256, SHA384}
use Rattle.prf.specs.Hmac.{hmac}
use Rattle.prf.specs.Promise.{hmac_number, tag_of, tagged_of, tagged384_of, Derives}
use Rattle.prf.specs.declared.keyed.Tagged.{Tagged}
use Rattle.prf.specs.declared.keyed.Tagged384.{Tagged384}

-- the tag that goes with a number
module _ (H : HashFunction) (k m : List ℕ) where
  pub tag_done : {t : List ℕ} → hmac_number (length k) (length m) ≡ 0 → t ≡ hmac H k m → t ≡ tag_of H k m
  tag_done n p = rw n p

  pub tag_refused : hmac_number (length k) (length m) ≡ 10 → replicate H.width 0 ≡ tag_of H k m
  tag_refused n = rw n

module _ (k m : List ℕ) {r : Refusal} {t : List ℕ} {number : ℕ} where
  pub tagged : r ≡ refusal_of number → hmac_number (length k) (length m) ≡ number → t ≡ tag_of SHA256 k m
      → ◌≡◌ {A = Tagged} (record { refusal = r; tag = t }) (tagged_of k m)
  unfolding tagged_of
  tagged e n p = rw (e, p, n)

  pub tagged384 : r ≡ refusal_of number → hmac_number (length k) (length m) ≡ number → t ≡ tag_of SHA384 k m
      → ◌≡◌ {A = Tagged384} (record { refusal = r; tag = t }) (tagged384_of k m)
  unfolding tagged384_of
  tagged384 e n p = rw (e, p, n)

-- the only reason of a call for its lengths
pub by_length : {r : Refusal} {reason : Reason} → r ≡ refusal_for reason → reason ≡ Length → r ≡ refusal_of 10
unfolding refusal_of
by_length h e = rw e at h

module _ {number : ℕ} (secret entry : List ℕ) where
  pub derived : {exit : List ℕ} → number ≡ 0 → exit ≡ secret ++ drop 48 entry → Derives number secret entry exit (refusal_of 0)
  derived z p = rw z (record { refusal = refl; written = p })

  pub underived : {r : Result ⊤ Reason} → number ≡ 10 → r ≡ Err Length → Derives number secret entry entry (refusal_in r)
  unfolding refusal_of
  underived z e = rw (z, e) (record { refusal = refl; written = refl })
