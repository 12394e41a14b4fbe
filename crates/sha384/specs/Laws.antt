-- Laws: what the parts above may use of a hash, whatever its layout.
-- Assumes nothing.
use Rattle.std.specs.Prelude.{◌≡◌, ℕ, ◌+◌, ◌<◌, ◌≤◌, List, length}
use Rattle.std.proofs.Common.{lt-ltb, le-ltb, length-append}
use Rattle.seqs.specs.Bytes.{Bytes}
use Rattle.seqs.specs.Words.{big, bytes_of}
use Rattle.seqs.proofs.Words.{length-in_bytes}
use Rattle.seqs.proofs.Bytes.{bytes_bytes_of}
use Rattle.refusal.specs.First.{first_of}
use Rattle.sha384.specs.Compress.{output}
use Rattle.sha384.specs.Sha384.{sha384}
use Rattle.sha384.specs.Running.{Running, taken, most}
use Rattle.sha384.specs.Promise.{absorb_number, digested_of}
use Rattle.sha384.specs.declared.running.Hash384.{Hash384}

-- the number of a call, by how many bytes there would be
pub number_over : (t n : ℕ) → most < t + n → absorb_number t n ≡ 10
unfolding absorb_number first_of
number_over t n h = rw (lt-ltb most (t + n) h)

pub number_within : (t n : ℕ) → t + n ≤ most → absorb_number t n ≡ 0
unfolding absorb_number first_of
number_within t n h = rw (le-ltb most (t + n) h)

-- a running hash has taken as many bytes as its message has
pub taken_length : {hash : Hash384} {m : List ℕ} → Running hash m → taken hash ≡ length m
unfolding taken
taken_length h = h.holds.counted

-- a digest is 48 bytes
pub length-sha384 : (m : List ℕ) → length (sha384 m) ≡ 48
unfolding sha384 output bytes_of
length-sha384 m = simp (length-append, length-in_bytes)

pub bytes_sha384 : (m : List ℕ) → Bytes (sha384 m)
unfolding sha384 output
bytes_sha384 m = bytes_bytes_of big 8 _

-- the digest of the one-shot call, within the bound
pub digested_within : (m : List ℕ) → length m ≤ most → (digested_of m).digest ≡ sha384 m
unfolding digested_of
digested_within m h = rw (le-ltb most (length m) h)
