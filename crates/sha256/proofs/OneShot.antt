-- The answer of the one-shot call, by its bound.
-- Assumes nothing.
use Rattle.std.proofs.Common.{◌≡◌, ℕ, ◌<◌, ◌≤◌, List, length, replicate, le-ltb, lt-ltb}
use Rattle.refusal.specs.Table.{refusal_of}
use Rattle.refusal.specs.declared.Refusal.{Refusal}
use Rattle.sha256.specs.Sha256.{sha256}
use Rattle.sha256.specs.Running.{most}
use Rattle.sha256.specs.Promise.{absorb_number, digested_of}
use Rattle.sha256.specs.declared.running.Digested.{Digested}

module _ (m : List ℕ) (refusal : Refusal) (e : refusal ≡ refusal_of (absorb_number 0 (length m))) where
  pub digested : (d : List ℕ) → length m ≤ most → d ≡ sha256 m → ◌≡◌ {A = Digested} (record { refusal = refusal; digest = d }) (digested_of m)
  unfolding digested_of
  digested d h p = rw (le-ltb most (length m) h, e, p)

  pub undigested : most < length m → ◌≡◌ {A = Digested} (record { refusal = refusal; digest = replicate 32 0 }) (digested_of m)
  unfolding digested_of
  undigested h = rw (lt-ltb most (length m) h, e)
