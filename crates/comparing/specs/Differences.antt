-- Document 02, order 8: 'lists the exact differences: messages in one only; for messages of the same number the first differing byte place ..;
-- for two readable hellos of one type also each field .. and extension type (lowest first) that differs or is in one only.'
-- Assumes nothing.
use Rattle.std.specs.Prelude.{Bool, true, false, List, [], ◌∷◌, ◌++◌, ℕ, zero, suc, ◌+◌, eqb, length}
use Rattle.std.proofs.Math.Option.{Option, none, some}
use Rattle.seqs.specs.Pick.{pick}
use Rattle.octets.specs.Same.{same}
use Rattle.cases.specs.Contents.{bodies_of}
use Rattle.cases.specs.Digits.{ascii}
use Rattle.hello.specs.Extensions.{Extension, content_of}
use Rattle.hello.specs.Fields.{Hello, Reading, fields, fault, read_client, read_server}

-- how a message differs from the one of the same number: it is in one case only, in a byte, in a field, in an extension of a type
pub data How : Type 0 where
  first : How
  second : How
  byte : ℕ → How
  field : List ℕ → How
  extension : ℕ → How

pub record Difference : Type 0 where
  -- the number of the message, counted from 1
  pub message : ℕ
  pub how : How

abbrev pub difference : ℕ → How → Difference
difference i h = record { message = i; how = h }

-- one difference, but where the two are the same
unfoldable pub unless : Bool → Difference → List Difference
unless alike d = pick alike [] (d ∷ [])

-- 'the first differing byte place (the shorter one's length where it begins the longer)': how many bytes both begin with alike
unfoldable pub common : List ℕ → List ℕ → ℕ
common [] ys = 0
common (x ∷ xs) [] = 0
common (x ∷ xs) (y ∷ ys) = pick (eqb x y) (suc (common xs ys)) 0

-- 'each field (version, random, identifier, suites, methods)': compared by its bytes, wherever they stand
unfoldable pub field_differences : ℕ → Hello → Hello → List Difference
field_differences i f g =
    unless (eqb f.version g.version) (difference i (field (ascii "version")))
    ++ unless (same f.random g.random) (difference i (field (ascii "random")))
    ++ unless (same f.identifier g.identifier) (difference i (field (ascii "identifier")))
    ++ unless (same f.suites g.suites) (difference i (field (ascii "suites")))
    ++ unless (same f.methods g.methods) (difference i (field (ascii "methods")))

-- the data of a type in two hellos: as long and equal, or in neither
unfoldable pub alike : Option (List ℕ) → Option (List ℕ) → Bool
alike none none = true
alike none (some e) = false
alike (some d) none = false
alike (some d) (some e) = same d e

-- of n types from t on, 'each .. extension type (lowest first) that differs or is in one only'
unfoldable pub types_from : ℕ → ℕ → ℕ → List Extension → List Extension → List Difference
types_from i zero t es fs = []
types_from i (suc n) t es fs =
    unless (alike (content_of t es) (content_of t fs)) (difference i (extension t)) ++ types_from i n (t + 1) es fs

-- of all types: a type has two bytes
unfoldable pub extension_differences : ℕ → List Extension → List Extension → List Difference
extension_differences i es fs = types_from i 65536 0 es fs

-- 'for two readable hellos': both were read
unfoldable pub read_differences : ℕ → Reading → Reading → List Difference
read_differences i (fault n p) s = []
read_differences i (fields f) (fault n p) = []
read_differences i (fields f) (fields g) = field_differences i f g ++ extension_differences i f.extensions g.extensions

-- 'of one type': as ClientHellos or as ServerHellos. No message reads as both, so one of the two lists is empty.
unfoldable pub hello_differences : ℕ → List ℕ → List ℕ → List Difference
hello_differences i m n = read_differences i (read_client m) (read_client n) ++ read_differences i (read_server m) (read_server n)

-- two messages of number i: where they differ at all, the byte place first
unfoldable pub message_differences : ℕ → List ℕ → List ℕ → List Difference
message_differences i m n = pick (same m n) [] (difference i (byte (common m n)) ∷ hello_differences i m n)

-- 'messages in one only': n of them, from number i on
unfoldable pub alone : How → ℕ → ℕ → List Difference
alone h i zero = []
alone h i (suc n) = difference i h ∷ alone h (i + 1) n

-- the messages from number i on, 'in message order'
unfoldable pub differences_from : ℕ → List (List ℕ) → List (List ℕ) → List Difference
differences_from i [] ns = alone second i (length ns)
differences_from i (m ∷ ms) [] = alone first i (length (m ∷ ms))
differences_from i (m ∷ ms) (n ∷ ns) = message_differences i m n ++ differences_from (i + 1) ms ns

-- of two cases, by their messages
unfoldable pub differences : List ℕ → List ℕ → List Difference
differences a b = differences_from 1 (bodies_of a) (bodies_of b)
