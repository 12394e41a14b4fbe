-- What the writers' helpers answer.
-- Assumes nothing.
use Rattle.std.specs.Prelude.{Bool, false, not, ◌&&◌, ◌||◌, List, [], ◌∷◌, ℕ, ◌+◌, ◌*◌, ◌%◌, eqb, ltb, Result, Ok, Err, ⊤}
use Rattle.seqs.specs.Pick.{pick}
use Rattle.refusal.specs.declared.reason.Reason.{Reason}
use Rattle.refusal.specs.declared.reason.Reason.TheVariants as reason
use Rattle.writing.specs.Messages.{vector8, vector16}

-- t is among the types
unfoldable pub among : ℕ → List ℕ → Bool
among t [] = false
among t (u ∷ us) = eqb u t || among t us

-- a type stands twice
unfoldable pub repeats : List ℕ → Bool
repeats [] = false
repeats (t ∷ ts) = among t ts || repeats ts

-- how many bytes an extension block has, by the number of its extensions and of their data
abbrev pub block_size : Bool → ℕ → ℕ → ℕ
block_size block count bytes = pick block (2 + 4 * count + bytes) 0

-- a vector that has at most high bytes
abbrev pub vector_of : ℕ → List ℕ → List ℕ
vector_of high l = pick (ltb high 256) (vector8 l) (vector16 l)

-- a size, if it is one
abbrev pub size_or : Bool → ℕ → Result ℕ Reason
size_or outside size = pick outside (Err reason.Length) (Ok size)

-- the lengths of random and identifier are outside their bounds
unfoldable pub opens_outside : ℕ → ℕ → Bool
opens_outside random identifier = not (eqb random 32) || ltb 32 identifier

-- and those of suites and methods
unfoldable pub lists_outside : ℕ → ℕ → Bool
lists_outside suites methods = ltb suites 2 || ltb 65534 suites || not (eqb (suites % 2) 0) || ltb methods 1 || ltb 255 methods

-- and the list of extensions, or the whole message: front bytes stand before the extension block
unfoldable pub list_outside : ℕ → Bool → ℕ → ℕ → Bool
list_outside front block count bytes = (not block && not (eqb count 0)) || ltb 16388 (front + block_size block count bytes)

-- how many bytes a message has, by the lengths of its fields
abbrev pub whole_size : ℕ → Bool → ℕ → ℕ → Result ℕ Reason
whole_size front block count bytes = size_or (list_outside front block count bytes) (front + block_size block count bytes)

abbrev pub client_size : ℕ → ℕ → ℕ → ℕ → Bool → ℕ → ℕ → Result ℕ Reason
client_size random identifier suites methods block count bytes =
    let front = 42 + identifier + suites + methods in
    size_or ((opens_outside random identifier || lists_outside suites methods) || list_outside front block count bytes) (front + block_size block count bytes)

abbrev pub server_size : ℕ → ℕ → Bool → ℕ → ℕ → Result ℕ Reason
server_size random identifier block count bytes =
    let front = 42 + identifier in
    size_or (opens_outside random identifier || list_outside front block count bytes) (front + block_size block count bytes)

-- why a message that has a size is refused, if it is: 'The writer of order 1 gives place 0'
unfoldable pub judged : Bool → Bool → Bool → Bool → Result ⊤ Reason
judged misshapen twice wrong short =
    pick misshapen (Err (reason.Malformed 0))
    (pick twice (Err (reason.Repeated 0)) (pick wrong (Err reason.Version) (pick short (Err reason.Length) (Ok tt))))
