-- 'Reading what was written gives the same fields, and writing what was read gives the same bytes; no extension block and an empty one stay
-- distinct. The writers never produce what the reader refuses.' First of the definitions, then of the calls, by what they ensure. Proved in
-- proofs/RoundTrip.antt.
-- Assumes nothing.
use Rattle.std.specs.Prelude.{◌≡◌, Bool, true, List, ◌++◌, ℕ, ◌<◌, ltb, length, take, drop, get_or}
use Rattle.seqs.specs.Pick.{pick}
use Rattle.seqs.specs.Bytes.{Bytes}
use Rattle.refusal.specs.Table.{refusal_of}
use Rattle.hello.specs.Layout.{big}
use Rattle.hello.specs.Fields.{Hello, Reading, fields, fault, read_client, read_server}
use Rattle.writing.specs.Lists.{types_of, lengths_of, data_of}
use Rattle.writing.specs.Messages.{client_bytes, server_bytes}
use Rattle.writing.specs.Promise.{client_number, server_number, client_of, server_of, WritesClient, WritesServer}
use Rattle.writing.specs.declared.judging.Written.{Written}

-- of either hello, by its reader, its bytes and its number
module _ (read : List ℕ → Reading) (bytes : Hello → List ℕ) (number : Bool → Hello → List ℕ → ℕ) where
  -- 'Reading what was written gives the same fields'
  abbrev pub WrittenReads : Type 0
  WrittenReads = (f : Hello) (out : List ℕ) → number true f out ≡ 0 → read (bytes f) ≡ fields f

  -- 'writing what was read gives the same bytes', refused by nothing but a short buffer
  abbrev pub ReadWrites : Type 0
  ReadWrites =
      (m : List ℕ) (f : Hello) → Bytes m → read m ≡ fields f
      → (bytes f ≡ m) × ((out : List ℕ) → number true f out ≡ pick (ltb (length out) (length m)) 10 0)

abbrev pub ClientWrittenReads : Type 0
ClientWrittenReads = WrittenReads read_client client_bytes client_number

abbrev pub ServerWrittenReads : Type 0
ServerWrittenReads = WrittenReads read_server server_bytes server_number

abbrev pub ClientReadWrites : Type 0
ClientReadWrites = ReadWrites read_client client_bytes client_number

abbrev pub ServerReadWrites : Type 0
ServerReadWrites = ReadWrites read_server server_bytes server_number

-- 16-bit numbers
abbrev pub Pairs : List ℕ → Type 0
Pairs l = (i : ℕ) → get_or l i 0 < 65536

-- What a call that was answered 0 tells: the front of the output reads as the very fields, so the reader refuses none of it; behind it
-- nothing changed; and the list read is the one lent, type by type, length by length, byte by byte.
pub record Reads (read : List ℕ → Reading) (f : Hello) (types lengths bytes out out' : List ℕ) (r : Written) : Type 0 where
  pub same : read (take r.length out') ≡ fields f
  pub never : (n p : ℕ) → read (take r.length out') ≡ fault n p → ⊥
  pub rest : drop r.length out' ≡ drop r.length out
  pub types_back : types_of f.extensions ≡ types
  pub lengths_back : lengths_of f.extensions ≡ lengths
  pub data_back : data_of f.extensions ≡ bytes

-- of `write_client_hello`
abbrev pub ClientCallReads : Type 0
ClientCallReads =
    (version : ℕ) (random identifier suites methods : List ℕ) (block : Bool) (types lengths bytes out out' : List ℕ) (r : Written)
    → WritesClient version random identifier suites methods block types lengths bytes out out' r → r.refusal.number ≡ 0
    → Reads read_client (client_of version random identifier suites methods block types lengths bytes) types lengths bytes out out' r

-- of `write_server_hello`
abbrev pub ServerCallReads : Type 0
ServerCallReads =
    (version : ℕ) (random identifier : List ℕ) (suite compression : ℕ) (block : Bool) (types lengths bytes out out' : List ℕ) (r : Written)
    → WritesServer version random identifier suite compression block types lengths bytes out out' r → r.refusal.number ≡ 0
    → Reads read_server (server_of version random identifier suite compression block types lengths bytes) types lengths bytes out out' r

-- What a call tells that is given the fields of a message m as it was read: it answers 0 with that very message, or 10 and nothing
-- written where the output is shorter than m.
pub record Rewrites (m out out' : List ℕ) (r : Written) : Type 0 where
  pub refusal : r.refusal ≡ refusal_of (pick (ltb (length out) (length m)) 10 0)
  pub size : r.length ≡ pick (ltb (length out) (length m)) 0 (length m)
  pub output : out' ≡ pick (ltb (length out) (length m)) out (m ++ drop (length m) out)

-- the fields of a message are arguments that a call can take: bytes, and 16-bit numbers
pub record Lendable (f : Hello) : Type 0 where
  pub version : f.version < 65536
  pub random : Bytes f.random
  pub identifier : Bytes f.identifier
  pub suites : Bytes f.suites
  pub methods : Bytes f.methods
  pub types : Pairs (types_of f.extensions)
  pub lengths : Pairs (lengths_of f.extensions)
  pub bytes : Bytes (data_of f.extensions)

-- of `write_client_hello`
abbrev pub ClientCallWrites : Type 0
ClientCallWrites =
    (m : List ℕ) (f : Hello) → Bytes m → read_client m ≡ fields f
    → Lendable f × ((out out' : List ℕ) (r : Written)
    → WritesClient f.version f.random f.identifier f.suites f.methods f.block (types_of f.extensions) (lengths_of f.extensions) (data_of f.extensions) out out' r
    → Rewrites m out out' r)

-- of `write_server_hello`: suite and method as the numbers that the reader hands out
abbrev pub ServerCallWrites : Type 0
ServerCallWrites =
    (m : List ℕ) (f : Hello) → Bytes m → read_server m ≡ fields f
    → Lendable f × ((out out' : List ℕ) (r : Written)
    → WritesServer f.version f.random f.identifier (big f.suites) (big f.methods) f.block (types_of f.extensions) (lengths_of f.extensions) (data_of f.extensions) out out' r
    → Rewrites m out out' r)
