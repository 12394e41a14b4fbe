-- What the two writers promise: the number, the length and the whole lent output, for any arguments.
-- Assumes nothing.
use Rattle.std.specs.Prelude.{◌≡◌, Bool, not, ◌&&◌, ◌||◌, List, [], ◌∷◌, ◌++◌, ℕ, ◌%◌, eqb, ltb, length, drop}
use Rattle.seqs.specs.Pick.{pick}
use Rattle.refusal.specs.First.{first_of}
use Rattle.refusal.specs.Table.{refusal_of}
use Rattle.message.specs.Frame.{overlong}
use Rattle.hello.specs.Extensions.{twice}
use Rattle.hello.specs.Fields.{Hello, wrong_client_version, wrong_server_version}
use Rattle.hello.specs.Written.{two_bytes}
use Rattle.writing.specs.Lists.{fitting, extensions_from, misshapen}
use Rattle.writing.specs.Messages.{client_bytes, server_bytes}
use Rattle.writing.specs.declared.judging.Written.{Written}

-- '10 for a field .. outside its bounds': random 32, identifier 0 to 32
unfoldable pub opening_outside : Hello → Bool
opening_outside f = not (eqb (length f.random) 32) || ltb 32 (length f.identifier)

-- suites 2 to 65,534 bytes, and even; methods 1 to 255
unfoldable pub client_outside : Hello → Bool
client_outside f =
    opening_outside f
    || ltb (length f.suites) 2
    || ltb 65534 (length f.suites)
    || not (eqb (length f.suites % 2) 0)
    || ltb (length f.methods) 1
    || ltb 255 (length f.methods)

-- one suite, one method
unfoldable pub server_outside : Hello → Bool
server_outside f = opening_outside f || not (eqb (length f.suites) 2) || not (eqb (length f.methods) 1)

-- 'no extension block' cannot hold extensions
unfoldable pub unblocked : Hello → Bool
unblocked f = not f.block && not (eqb (length f.extensions) 0)

-- 'Refusals: 10 for a field or whole message outside its bounds and, last, for a short buffer; 1 for an RI or EMS of the wrong shape; 2 for
-- a repeated type; 3 for the version.' Document 01's order decides where several apply. `fits` says that the lent types, lengths and data
-- fit each other.
unfoldable pub write_number : (Hello → Bool) → (Hello → List ℕ) → (ℕ → Bool) → Bool → Hello → List ℕ → ℕ
write_number outside bytes wrong fits f out =
    first_of
    ((10, outside f)
    ∷ (10, not fits)
    ∷ (10, unblocked f)
    ∷ (10, overlong (bytes f))
    ∷ (1, misshapen f.extensions)
    ∷ (2, twice f.extensions)
    ∷ (3, wrong f.version)
    ∷ (10, ltb (length out) (length (bytes f)))
    ∷ [])

abbrev pub client_number : Bool → Hello → List ℕ → ℕ
client_number = write_number client_outside client_bytes wrong_client_version

abbrev pub server_number : Bool → Hello → List ℕ → ℕ
server_number = write_number server_outside server_bytes wrong_server_version

-- a message for a lent output: it stands at the front and the rest is as it was; refused, all is as it was
pub record Writes (number : ℕ) (message out out' : List ℕ) (r : Written) : Type 0 where
  -- at place 0, with 1 and 2 as with all else: 'The writer of order 1 gives place 0' (order 9)
  pub refusal : r.refusal ≡ refusal_of number
  pub size : r.length ≡ pick (eqb number 0) (length message) 0
  pub output : out' ≡ pick (eqb number 0) (message ++ drop (length message) out) out

-- the fields as the arguments give them
abbrev pub client_of : ℕ → List ℕ → List ℕ → List ℕ → List ℕ → Bool → List ℕ → List ℕ → List ℕ → Hello
client_of version random identifier suites methods block types lengths bytes =
    record {
      version = version;
      random = random;
      identifier = identifier;
      suites = suites;
      methods = methods;
      block = block;
      extensions = extensions_from types lengths bytes;
    }

-- of a ServerHello, suite and method are numbers
abbrev pub server_of : ℕ → List ℕ → List ℕ → ℕ → ℕ → Bool → List ℕ → List ℕ → List ℕ → Hello
server_of version random identifier suite compression block types lengths bytes =
    client_of version random identifier (two_bytes suite) (compression ∷ []) block types lengths bytes

-- what `write_client_hello` ensures
abbrev pub WritesClient : ℕ → List ℕ → List ℕ → List ℕ → List ℕ → Bool → List ℕ → List ℕ → List ℕ → List ℕ → List ℕ → Written → Type 0
WritesClient version random identifier suites methods block types lengths bytes out out' r =
    let f = client_of version random identifier suites methods block types lengths bytes in
    Writes (client_number (fitting types lengths bytes) f out) (client_bytes f) out out' r

-- what `write_server_hello` ensures
abbrev pub WritesServer : ℕ → List ℕ → List ℕ → ℕ → ℕ → Bool → List ℕ → List ℕ → List ℕ → List ℕ → List ℕ → Written → Type 0
WritesServer version random identifier suite compression block types lengths bytes out out' r =
    let f = server_of version random identifier suite compression block types lengths bytes in
    Writes (server_number (fitting types lengths bytes) f out) (server_bytes f) out out' r
