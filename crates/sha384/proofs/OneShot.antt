-- The answer of the one-shot call, by its bound.
-- Assumes nothing.
use Rattle.std.proofs.Common.{◌≡◌, ℕ, ◌<◌, ◌≤◌, List, length, replicate, le-ltb, lt-ltb}
use Rattle.refusal.specs.Table.{refusal_of}
use Rattle.refusal.specs.declared.Refusal.{Refusal}
use Rattle.sha384.specs.Sha384.{sha384}
use Rattle.sha384.specs.Running.{most}
use Rattle.sha384.specs.Promise.{absorb_number, digested_of}
use Rattle.sha384.specs.declared.running.Digested384.{Digested384}

module _ (m : List ℕ) (refusal : Refusal) (e : refusal ≡ refusal_of (absorb_number 0 (length m))) where
  pub digested : (d : List ℕ) → length m ≤ most → d ≡ sha384 m → ◌≡◌ {A = Digested384} (record { refusal = refusal; digest = d }) (digested_of m)
  unfolding digested_of
  digested d h p = rw (le-ltb most (length m) h, e, p)

  pub undigested : most < length m → ◌≡◌ {A = Digested384} (record { refusal = refusal; digest = replicate 48 0 }) (digested_of m)
  unfolding digested_of
  undigested h = rw (lt-ltb most (length m) h, e)
