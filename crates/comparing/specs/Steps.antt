-- What the helpers of a comparison answer: lines of a word alone; a hello that was read, by places of its message.
-- Assumes nothing.
use Rattle.std.specs.Prelude.{◌≡◌, Bool, false, List, [], ◌∷◌, ◌++◌, ℕ, zero, suc, ◌+◌, ◌≤◌, ◌<◌, eqb, length, Option, Some, None, ◌⊎◌}
use Rattle.std.proofs.Math.Option.{none, some}
use Rattle.seqs.specs.Pick.{pick}
use Rattle.octets.specs.Same.{same}
use Rattle.hello.specs.Extensions.{Extension, content_of}
use Rattle.hello.specs.Fields.{Hello, Reading, fields, fault}
use Rattle.hello.specs.Places.{part, behind, bytes_at, Points}
use Rattle.hello.specs.declared.parts.Part.{Part}
use Rattle.hello.specs.Next.{next_at}
use Rattle.comparing.specs.Comparison.{line}
use Rattle.comparing.specs.declared.fields.Fields.{Fields}
use Rattle.comparing.specs.declared.extensions.Found.{Found}

-- n lines of a word alone, from message i on
unfoldable pub lines_from : List ℕ → ℕ → ℕ → List ℕ
lines_from word i zero = []
lines_from word i (suc n) = line i word [] ++ lines_from word (i + 1) n

-- the extensions that the reader hands out from place at of a message on, n at most
unfoldable pub handed_from : ℕ → List ℕ → ℕ → List Extension
handed_from zero m at = []
handed_from (suc n) m at =
    pick (eqb (next_at m at).found 0) []
    (record { kind = (next_at m at).kind; content = bytes_at m (next_at m at).«data» } ∷ handed_from n m (next_at m at).next)

-- all of them: there are no more than bytes
unfoldable pub handed : List ℕ → ℕ → List Extension
handed m at = handed_from (length m) m at

-- the fields x, as places of the message m, are those of f
pub record Holds (m : List ℕ) (x : Fields) (f : Hello) : Type 0 where
  pub version : x.version ≡ f.version
  pub random : Points m x.random f.random
  pub identifier : Points m x.identifier f.identifier
  pub suites : Points m x.suites f.suites
  pub methods : Points m x.methods f.methods
  pub extensions : handed m x.list ≡ f.extensions

-- the answer of a reader, as far as it is compared
abbrev pub Sees : List ℕ → Reading → Option Fields → Type 0
Sees m r (Some x) = (f : Hello) × (r ≡ fields f) × Holds m x f
Sees m r None = (n : ℕ) × (p : ℕ) × (r ≡ fault n p)

-- every field lies within the message
pub record Within (m : List ℕ) (x : Fields) : Type 0 where
  pub random : behind x.random ≤ length m
  pub identifier : behind x.identifier ≤ length m
  pub suites : behind x.suites ≤ length m
  pub methods : behind x.methods ≤ length m

-- the hello whose fields stand at these places; whether it has a block is not compared
unfoldable pub hello_at : List ℕ → Fields → Hello
hello_at m x =
    record {
      version = x.version;
      random = bytes_at m x.random;
      identifier = bytes_at m x.identifier;
      suites = bytes_at m x.suites;
      methods = bytes_at m x.methods;
      block = false;
      extensions = handed m x.list;
    }

-- what was seen of a message, within it, and as a reading; which fault there is is not compared
abbrev pub SeenWithin : List ℕ → Option Fields → Type 0
SeenWithin m (Some x) = Within m x
SeenWithin m None = Unit {0}

unfoldable pub reading_at : List ℕ → Option Fields → Reading
reading_at m (Some x) = fields (hello_at m x)
reading_at m None = fault 0 0

-- an extension that was found, and 65,536, which is no type, where none was
pub record Least : Type 0 where
  pub kind : ℕ
  pub «data» : Part

abbrev pub least : Option Found → Least
least None = record { kind = 65536; «data» = part 0 0 }
least (Some x) = record { kind = x.kind; «data» = x.«data» }

-- the extension of the least type from low on among es, with its data; of type 65,536, which is none, where there is none
pub record IsLowest (m : List ℕ) (es : List Extension) (low : ℕ) (r : Least) : Type 0 where
  pub most : r.kind ≤ 65536
  pub within : behind r.«data» ≤ length m
  pub below : (t : ℕ) → low ≤ t → t < r.kind → content_of t es ≡ none
  pub here : r.kind < 65536 → (low ≤ r.kind) × (content_of r.kind es ≡ some (bytes_at m r.«data»))

-- two such extensions are of one type and have the same data
unfoldable pub matched : List ℕ → Least → List ℕ → Least → Bool
matched a x b y = pick (eqb x.kind y.kind) (same (bytes_at a x.«data») (bytes_at b y.«data»)) false

-- the lower type of the two, where one of them is a type
abbrev pub IsLesser : ℕ → ℕ → Option ℕ → Type 0
IsLesser m n None = (m ≡ 65536) × (n ≡ 65536)
IsLesser m n (Some k) = (k < 65536) × (k ≤ m) × (k ≤ n) × ((k ≡ m) ⊎ (k ≡ n))
