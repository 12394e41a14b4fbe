-- Document 02, order 8, as it is read: 'How long the text can get: under 358,280 bytes (at most 106 bytes of byte and field lines a pair of
-- messages, 255 pairs; at most 16,384 extension lines of 20 bytes) ..; nothing of it may be cut off.'
-- Assumes nothing.
use Rattle.std.specs.Prelude.{List, ℕ, ◌≤◌, length}
use Rattle.seqs.specs.Bytes.{Bytes}
use Rattle.comparing.specs.Comparison.{comparison}

-- so many: 255 times 106 bytes, and 5 bytes of text for each byte of the two cases (an extension takes 4), rounded up
abbrev pub longest : ℕ
longest = 358280

-- of any two byte strings: an output of that many bytes holds the whole text. Proved as `fits` in proofs/Longest.antt.
abbrev pub Fits : Type 0
Fits = (a b : List ℕ) → Bytes a → Bytes b → length (comparison a b) ≤ longest
