-- The carried hashes are one value for one list of bytes.
-- Assumes nothing.
use mathlib.Core.Path.{◌≡◌, sym, ◌∙◌}
use Prim.Native.Nat.{ℕ}
use Rattle.sha256.specs.declared.running.Hash.{Hash}
use Rattle.sha256.proofs.Alone as one-256
use Rattle.sha384.specs.declared.running.Hash384.{Hash384}
use Rattle.sha384.proofs.Alone as one-384
use Rattle.transcript.specs.Choice.Algorithm.{sha_256, sha_384}
use Rattle.transcript.specs.Carries.{taken_by, OneTranscript}
use Rattle.transcript.specs.declared.Transcript.{Transcript}

same : {h h' : Hash} {i i' : Hash384} {n n' : ℕ} → h ≡ h' → i ≡ i' → n ≡ n'
    → ◌≡◌ {A = Transcript} (record { sha256 = h; sha384 = i; choice = n }) (record { sha256 = h'; sha384 = i'; choice = n' })
same p q r = cc

pub alone : OneTranscript
alone t u c m p q =
    same
    (one-256.alone t.sha256 u.sha256 (taken_by c sha_256 m) p.sha256 q.sha256)
    (one-384.alone t.sha384 u.sha384 (taken_by c sha_384 m) p.sha384 q.sha384)
    (p.choice ∙ sym q.choice)
