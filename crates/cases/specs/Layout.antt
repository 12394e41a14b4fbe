-- A case laid out from its messages, and that a good case is laid out so.
-- Assumes nothing.
use Rattle.std.specs.Prelude.{◌≡◌, true, List, [], ◌∷◌, ◌++◌, map, ℕ, ◌/◌, ◌%◌, ◌≤◌, length, get_or}
use Rattle.seqs.specs.Bytes.{Bytes}
use Rattle.cases.specs.Contents.{good_case, bodies_of}

-- each number in two bytes, big-endian
unfoldable pub length_bytes : List ℕ → List ℕ
length_bytes [] = []
length_bytes (n ∷ ns) = n / 256 ∷ n % 256 ∷ length_bytes ns

-- one after the other
unfoldable pub joined : List (List ℕ) → List ℕ
joined [] = []
joined (m ∷ ms) = m ++ joined ms

-- the case of some messages: 'contents first (a count byte, a 2-byte length for each), then the bodies'
unfoldable pub case_of : List (List ℕ) → List ℕ
case_of ms = length ms ∷ length_bytes (map length ms) ++ joined ms

-- A good case is the case of its messages, so its bytes are determined by them. Proved as `laid_out` in proofs/Laid.antt.
abbrev pub LaidOut : Type 0
LaidOut = (a : List ℕ) → Bytes a → good_case a ≡ true → a ≡ case_of (bodies_of a)

-- And there is a good case of any messages that fit: at most 255 of them, each of bytes, and at most 32,768 bytes in all, contents and bodies.
-- Proved as `case_good` there.
abbrev pub CaseGood : Type 0
CaseGood =
    (ms : List (List ℕ)) → length ms ≤ 255 → ((i : ℕ) → Bytes (get_or ms i [])) → length (case_of ms) ≤ 32768
    → Bytes (case_of ms) × (good_case (case_of ms) ≡ true) × (bodies_of (case_of ms) ≡ ms)
