-- The two hellos as bytes (RFC 5246, sections 7.4.1.2 and 7.4.1.3): the layout that the reader takes apart, the other way round.
-- Assumes nothing.
use Rattle.std.specs.Prelude.{List, [], ◌∷◌, ◌++◌, ℕ, ◌/◌, ◌%◌, length}
use Rattle.seqs.specs.Pick.{pick}
use Rattle.hello.specs.Fields.{Hello}
use Rattle.hello.specs.Written.{two_bytes, written_block}

-- a number in three bytes
abbrev pub three_bytes : ℕ → List ℕ
three_bytes n = (n / 65536) ∷ two_bytes (n % 65536)

-- 'A message is type (1 byte), body length (3 bytes, big-endian) and exactly that body.'
abbrev pub message_of : ℕ → List ℕ → List ℕ
message_of kind body = kind ∷ (three_bytes (length body) ++ body)

-- a vector: its length, in one byte or in two, and so many bytes
abbrev pub vector8 : List ℕ → List ℕ
vector8 l = length l ∷ l

abbrev pub vector16 : List ℕ → List ℕ
vector16 l = two_bytes (length l) ++ l

-- 'version 2, random 32, identifier length 1 (0 to 32) and identifier'
abbrev pub opening_bytes : Hello → List ℕ
opening_bytes f = two_bytes f.version ++ f.random ++ vector8 f.identifier

-- 'Then either the body ends or a 2-byte length covers exactly the rest: extensions'
abbrev pub closing_bytes : Hello → List ℕ
closing_bytes f = pick f.block (written_block f.extensions) []

-- 'suites length 2 and suites, compression length 1 and methods'
unfoldable pub client_bytes : Hello → List ℕ
client_bytes f = message_of 1 (opening_bytes f ++ vector16 f.suites ++ vector8 f.methods ++ closing_bytes f)

-- 'one suite 2, one method 1'
unfoldable pub server_bytes : Hello → List ℕ
server_bytes f = message_of 2 (opening_bytes f ++ f.suites ++ f.methods ++ closing_bytes f)
