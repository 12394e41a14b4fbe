-- Laws: what the parts above may use of a hash, whatever its layout.
-- Assumes nothing.
use Rattle.std.specs.Prelude.{◌≡◌, ℕ, ◌+◌, ◌<◌, ◌≤◌, Bool, true, false, List, [], ◌∷◌, length, ◌≢◌, nat_lt, refl}
use Rattle.std.proofs.Common.{sym, ◌∙◌, ap, arith, lt-ltb, le-ltb, ltb-true, ltb-false, length-append}
use Rattle.seqs.specs.Bytes.{Bytes}
use Rattle.seqs.specs.Words.{big, bytes_of}
use Rattle.seqs.proofs.Words.{length-in_bytes}
use Rattle.seqs.proofs.Bytes.{bytes_bytes_of}
use Rattle.seqs.proofs.Ending.{same_end}
use Rattle.refusal.specs.First.{first_of}
use Rattle.refusal.specs.Table.{refusal_of}
use Rattle.refusal.specs.Listed.{row_number}
use Rattle.sha256.specs.Constants.{initial}
use Rattle.sha256.specs.Compress.{step, output}
use Rattle.sha256.specs.Sha256.{sha256}
use Rattle.sha256.specs.Running.{Running, taken, most}
use Rattle.sha256.specs.Promise.{absorb_number, digested_of}
use Rattle.sha256.specs.declared.running.Hash.{Hash}

-- the number of a call, by how many bytes there would be
pub number_over : (t n : ℕ) → most < t + n → absorb_number t n ≡ 10
unfolding absorb_number first_of
number_over t n h = rw (lt-ltb most (t + n) h)

pub number_within : (t n : ℕ) → t + n ≤ most → absorb_number t n ≡ 0
unfolding absorb_number first_of
number_within t n h = rw (le-ltb most (t + n) h)

-- a call that answers 0 stayed within the bound, and any other did not
test_done : (b : Bool) → first_of ((10, b) ∷ []) ≡ 0 → b ≡ false
unfolding first_of
test_done true h = absurd (omega arith)
test_done false h = refl

test_refused : (b : Bool) → (first_of ((10, b) ∷ []) ≢ 0) → b ≡ true
unfolding first_of
test_refused true h = refl
test_refused false h = absurd (h refl)

pub number_done : (t n : ℕ) → (refusal_of (absorb_number t n)).number ≡ 0 → t + n ≤ most
unfolding absorb_number
number_done t n h = ltb-false most (t + n) (test_done (nat_lt most (t + n)) (sym (row_number (absorb_number t n)) ∙ h))

pub number_refused : (t n : ℕ) → ((refusal_of (absorb_number t n)).number ≢ 0) → most < t + n
unfolding absorb_number
number_refused t n h = ltb-true most (t + n) (test_refused (nat_lt most (t + n)) (λ e. h (row_number (absorb_number t n) ∙ e)))

-- a running hash has taken as many bytes as its message has
pub taken_length : {hash : Hash} {m : List ℕ} → Running hash m → taken hash ≡ length m
unfolding taken
taken_length h = h.holds.counted

pub running_bounded : {hash : Hash} {m : List ℕ} → Running hash m → length m ≤ most
running_bounded h = h.bounded

-- two messages that one hash runs have one digest
pub same_digest : {hash : Hash} {m n : List ℕ} → Running hash m → Running hash n → sha256 m ≡ sha256 n
unfolding sha256
same_digest g h =
    ap output (same_end 64 (omega arith) step initial 8 big (omega arith) g.holds h.holds)

-- a digest is 32 bytes
pub length-sha256 : (m : List ℕ) → length (sha256 m) ≡ 32
unfolding sha256 output bytes_of
length-sha256 m = simp (length-append, length-in_bytes)

pub bytes_sha256 : (m : List ℕ) → Bytes (sha256 m)
unfolding sha256 output
bytes_sha256 m = bytes_bytes_of big 4 _

-- the digest of the one-shot call, within the bound
pub digested_within : (m : List ℕ) → length m ≤ most → (digested_of m).digest ≡ sha256 m
unfolding digested_of
digested_within m h = rw (le-ltb most (length m) h)
