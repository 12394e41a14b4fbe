-- 'Reading a hello answers either its fields or the first fault.' The fields of a ClientHello and a ServerHello (RFC 5246,
-- sections 7.4.1.2 and 7.4.1.3), and the number and the place where there are none.
-- Assumes nothing.
use Rattle.std.specs.Prelude.{Bool, true, false, not, ◌||◌, List, [], ◌∷◌, ◌++◌, ℕ, ◌+◌, ◌*◌, ◌%◌, ltb, eqb, length}
use Rattle.seqs.specs.Pick.{pick}
use Rattle.refusal.specs.First.{Fault, first_fault}
use Rattle.message.specs.Frame.{header_tests}
use Rattle.hello.specs.Layout.{Parse, malformed, parsed, Left, from, big, field, vector}
use Rattle.hello.specs.Extensions.{Extension, extensions_of, twice, repeat_at}

pub record Hello : Type 0 where
  pub version : ℕ
  pub random : List ℕ
  -- the session identifier, which may be empty
  pub identifier : List ℕ
  -- the cipher suites, two bytes each; of a ServerHello the one that it names
  pub suites : List ℕ
  -- the compression methods, a byte each; of a ServerHello the one that it names
  pub methods : List ℕ
  -- there is an extension block: no block and an empty one are told apart
  pub block : Bool
  pub extensions : List Extension

-- 'version 2, random 32, identifier length 1 (0 to 32) and identifier': how both begin
unfoldable pub opening : Left → (List ℕ → List ℕ → List ℕ → Left → Parse Hello) → Parse Hello
opening l then =
    field 2 l (λ version l₁. field 32 l₁ (λ random l₂. vector 1 0 32 l₂ (λ identifier l₃. then version random identifier l₃)))

-- the extensions, once the list of them is known to be whole
abbrev pub listed : Parse (List Extension) → (List Extension → Parse Hello) → Parse Hello
listed (malformed p) then = malformed p
listed (parsed es) then = then es

-- 'Then either the body ends or a 2-byte length covers exactly the rest: extensions'
unfoldable pub closing : Left → (Bool → List Extension → Parse Hello) → Parse Hello
closing l then =
    pick (eqb (length l.bytes) 0) (then false [])
    (field 2 l
    (λ n rest.
    pick (eqb (big n) (length rest.bytes)) (listed (extensions_of rest) (λ es. then true es)) (malformed l.at)))

-- 'suites length 2 (even, 2 to 65,534) and suites, compression length 1 (1 to 255) and methods'
unfoldable pub client_layout : Left → Parse Hello
client_layout body =
    opening body
    (λ version random identifier l₁.
    vector 2 2 65534 l₁
    (λ suites l₂.
    pick (eqb (length suites % 2) 0)
    (vector 1 1 255 l₂
    (λ methods l₃.
    closing l₃
    (λ block extensions.
    parsed (record { version = big version; random = random; identifier = identifier; suites = suites; methods = methods; block = block; extensions = extensions }))))
    (malformed l₁.at)))

-- 'one suite 2, one method 1'
unfoldable pub server_layout : Left → Parse Hello
server_layout body =
    opening body
    (λ version random identifier l₁.
    field 2 l₁
    (λ suites l₂.
    field 1 l₂
    (λ methods l₃.
    closing l₃
    (λ block extensions.
    parsed (record { version = big version; random = random; identifier = identifier; suites = suites; methods = methods; block = block; extensions = extensions })))))

-- the suite is in the list of suites, as one whole suite: 'uint8 CipherSuite[2]' (RFC 5246, section 7.4.1.2)
unfoldable pub lists : ℕ → List ℕ → Bool
lists suite [] = false
lists suite (a ∷ []) = false
lists suite (a ∷ b ∷ rest) = eqb (256 * a + b) suite || lists suite rest

-- 'Which suites and methods appear isn't judged, but for 00 ff in a ClientHello, the signal': TLS_EMPTY_RENEGOTIATION_INFO_SCSV of
-- RFC 5746
abbrev pub signal_in : List ℕ → Bool
signal_in suites = lists 255 suites

-- where the fields of a body that begins at place start stand, by the lengths of those before them: the identifier behind version, random
-- and its own length, suites and methods of a ClientHello behind theirs
abbrev pub identifier_at : ℕ → ℕ
identifier_at start = start + 35

abbrev pub suites_at : ℕ → Hello → ℕ
suites_at start f = identifier_at start + length f.identifier + 2

abbrev pub methods_at : ℕ → Hello → ℕ
methods_at start f = suites_at start f + length f.suites + 1

-- the list of extensions stands behind the 2-byte length of the block, if there is a block
abbrev pub list_place : Bool → ℕ → ℕ
list_place block at = pick block (at + 2) at

-- in a ClientHello the block stands behind the methods
abbrev pub client_list_at : ℕ → Hello → ℕ
client_list_at start f = list_place f.block (methods_at start f + length f.methods)

-- in a ServerHello behind a suite and a method, 3 bytes
abbrev pub server_list_at : ℕ → Hello → ℕ
server_list_at start f = list_place f.block (identifier_at start + length f.identifier + 3)

-- 'A ClientHello below 03 03 is 3, higher ones pass'
abbrev pub wrong_client_version : ℕ → Bool
wrong_client_version v = ltb v 771

-- 'a ServerHello must say 03 03'
abbrev pub wrong_server_version : ℕ → Bool
wrong_server_version v = not (eqb v 771)

-- What is asked of a hello: its type, where its body begins, how that is laid out, where the list of its extensions then stands, and
-- which versions are wrong.
pub record Form : Type 0 where
  pub kind : ℕ
  pub start : ℕ
  pub layout : Left → Parse Hello
  pub list : ℕ → Hello → ℕ
  pub wrong : ℕ → Bool

-- ClientHello, type 1; the body stands behind the header, 4 bytes
abbrev pub client_form : Form
client_form = record { kind = 1; start = 4; layout = client_layout; list = client_list_at; wrong = wrong_client_version }

-- ServerHello, type 2
abbrev pub server_form : Form
server_form = record { kind = 2; start = 4; layout = server_layout; list = server_list_at; wrong = wrong_server_version }

abbrev pub laid_out : Form → List ℕ → Parse Hello
laid_out k m = k.layout (from m k.start)

-- of the fields, where there are fields
abbrev pub among : {A : Type 0} → A → Parse Hello → (Hello → A) → A
among other (malformed p) of = other
among other (parsed f) of = of f

abbrev pub is_malformed : {A : Type 0} → Parse A → Bool
is_malformed (malformed p) = true
is_malformed (parsed f) = false

-- the place of the first fault, where there is one
abbrev pub broken_in : {A : Type 0} → Parse A → ℕ
broken_in (malformed p) = p
broken_in (parsed f) = 0

-- what is asked of a body: a fault of its layout before a repeat, wherever they stand in it, and a repeat before the version
abbrev pub body_tests : Form → Parse Hello → List (ℕ × ℕ × Bool)
body_tests k p =
    (1, broken_in p, is_malformed p)
    ∷ (2, among 0 p (λ f. repeat_at (k.list k.start f) f.extensions), among false p (λ f. twice f.extensions))
    ∷ (3, 0, among false p (λ f. k.wrong f.version))
    ∷ []

-- the first fault, 10, 1, 2, 3: its number and, of 1 and 2, its place
unfoldable pub hello_fault : Form → List ℕ → Fault
hello_fault k m = first_fault (header_tests k.kind m ++ body_tests k (laid_out k m))

-- what reading a hello answers
pub data Reading : Type 0 where
  fields : Hello → Reading
  fault : ℕ → ℕ → Reading

abbrev pub reading_of : Fault → Parse Hello → Reading
reading_of e (malformed p) = fault e.number e.place
reading_of e (parsed f) = pick (eqb e.number 0) (fields f) (fault e.number e.place)

abbrev pub read_as : Form → List ℕ → Reading
read_as k m = reading_of (hello_fault k m) (laid_out k m)

unfoldable pub read_client : List ℕ → Reading
read_client m = read_as client_form m

unfoldable pub read_server : List ℕ → Reading
read_server m = read_as server_form m
