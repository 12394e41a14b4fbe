-- Document 01, 'Readings and cases': every case marked P, and the smallest hellos, as one table under one statement about the
-- definitions that the contracts cite. It is proved by computation in proofs/Cases.antt.
-- Assumes nothing.
use Rattle.std.specs.Prelude.{◌≡◌, Bool, true, false, List, [], ◌∷◌, ◌++◌, ℕ, zero, suc, ◌+◌, length, take, replicate}
use Rattle.std.proofs.Math.Option.{none, some}
use Rattle.seqs.specs.Pick.{pick}
use Rattle.octets.specs.Same.{same}
use Rattle.hello.specs.Layout.{Parse, Left}
use Rattle.hello.specs.Layout.Parse.{malformed, parsed}
use Rattle.hello.specs.Extensions.{Extension, extensions_of, indication_of, ems_of}
use Rattle.hello.specs.Fields.{Hello, fields, fault, read_client, read_server}
use Rattle.sessions.specs.Book.{Book, Call, store, empty, book_from, sought}
use Rattle.sessions.specs.Book as book
use Rattle.decision.specs.Connection.{full_ems, decided}
use Rattle.decision.specs.Server.{session_in, server_number, server_decision}
use Rattle.decision.specs.declared.connection.Connection.{Connection}
use Rattle.decision.specs.declared.connection.Switches.{Switches}
use Rattle.decision.specs.declared.connection.Decision.{Decision}
use Rattle.transcript.specs.Choice.{Algorithm}
use Rattle.transcript.specs.Choice.Algorithm.{sha_256}
use Rattle.message_log.specs.Told.{Told, full, resuming}
use Rattle.message_log.specs.History.History.{fresh}
use Rattle.message_log.specs.Standing.{Standing, history_of, entered}
use Rattle.message_log.specs.Standing.Standing.{whole}
use Rattle.message_log.specs.Calls.{accept_number, after_accept}
use Rattle.message_log.specs.Finish.{expected_value, expected_number, finish_number}

-- ---- readings

-- what a list of extensions says, where it is one
abbrev pub in_list : {A : Type 0} → (List Extension → A) → Parse (List Extension) → Parse A
in_list f (malformed p) = malformed p
in_list f (parsed es) = parsed (f es)

-- a list of extensions by itself
abbrev pub alone : List ℕ → Left
alone l = record { at = 0; bytes = l }

-- a handshake message
abbrev pub message : ℕ → List ℕ → List ℕ
message kind body = kind ∷ 0 ∷ 0 ∷ length body ∷ body

-- the bodies of the smallest hellos: 03 03, a random, no identifier, then one suite and one method
abbrev pub client_body : List ℕ
client_body = (3 ∷ 3 ∷ []) ++ replicate 32 0 ++ (0 ∷ 0 ∷ 2 ∷ 0 ∷ 47 ∷ 1 ∷ 0 ∷ [])

abbrev pub server_body : List ℕ
server_body = (3 ∷ 3 ∷ []) ++ replicate 32 0 ++ (0 ∷ 0 ∷ 47 ∷ 0 ∷ [])

abbrev pub smallest : Hello
smallest =
    record {
      version = 771;
      random = replicate 32 0;
      identifier = [];
      suites = 0 ∷ 47 ∷ [];
      methods = 0 ∷ [];
      block = false;
      extensions = [];
    }

-- 'Smallest ClientHello message is 45 bytes, smallest ServerHello 42; a byte less is 1': there the methods' length claims more than is left,
-- and here the method is cut off. Not marked P; that no shorter message reads
-- is said by `ClientBounds` and `ServerBounds` of every message.
pub record SmallestHellos : Type 0 where
  pub client_size : length (message 1 client_body) ≡ 45
  pub client : read_client (message 1 client_body) ≡ fields smallest
  pub client_less : read_client (message 1 (take 40 client_body)) ≡ fault 1 43
  pub server_size : length (message 2 server_body) ≡ 42
  pub server : read_server (message 2 server_body) ≡ fields smallest
  pub server_less : read_server (message 2 (take 37 server_body)) ≡ fault 1 41

-- ---- the server's decision

-- a ClientHello that names a session: 03 03, a random, the identifier 07, one suite, 00 2f, one method, and then the block
abbrev pub hello : List ℕ → List ℕ
hello block = message 1 ((3 ∷ 3 ∷ []) ++ replicate 32 0 ++ (1 ∷ 7 ∷ 0 ∷ 2 ∷ 0 ∷ 47 ∷ 1 ∷ 0 ∷ []) ++ block)

abbrev pub bare_hello : List ℕ
bare_hello = hello []

abbrev pub ri_hello : List ℕ
ri_hello = hello (0x00 ∷ 0x05 ∷ 0xff ∷ 0x01 ∷ 0x00 ∷ 0x01 ∷ 0x00 ∷ [])

abbrev pub ems_hello : List ℕ
ems_hello = hello (0x00 ∷ 0x04 ∷ 0x00 ∷ 0x17 ∷ 0x00 ∷ 0x00 ∷ [])

abbrev pub connection : ℕ → ℕ → Connection
connection completed indication =
    record { completed = completed; indication = indication; barred = 0; client = replicate 12 0; server = replicate 12 0 }

-- legacy outcomes are allowed, or not
abbrev pub legacy : ℕ → Switches
legacy x = record { indication_required = 0; legacy_full = x; legacy_resumption = x }

abbrev pub room : List ℕ
room = replicate 35 0

-- axle 1 has that session, with EMS or not; its suite is the one that the hello lists (order 2)
abbrev pub kept : Bool → Book
kept e = record { axle = 1; identifier = 7 ∷ []; ems = e; suite = 47; secret = replicate 48 0 } ∷ []

-- number and decision on a hello of that axle, where the book is b
abbrev pub number_on : List ℕ → Book → Connection → Switches → ℕ
number_on m b c s = server_number 1 (read_client m) (session_in 1 (read_client m) b) c s room

abbrev pub decision_on : List ℕ → Book → Connection → Switches → Decision
decision_on m b c s = server_decision 1 (read_client m) (session_in 1 (read_client m) b) c s room

-- ---- the log

-- the numbers of messages that are fed one after the other to the accepting call, from fresh, never told of resuming or of SHA-384
unfoldable pub numbers_from : Standing → List (List ℕ) → List ℕ
numbers_from s [] = []
numbers_from s (m ∷ ms) = accept_number s m (full sha_256) ∷ numbers_from (after_accept s m (full sha_256)) ms

-- 1, 2, told this with the second
abbrev pub greeted : Told → Standing
greeted tell = after_accept (after_accept (whole fresh) (message 1 []) (full sha_256)) (message 2 []) tell

-- ---- the table

-- n stores of an axle, each under an identifier of its own: from, from + 1, ..
abbrev pub stores : ℕ → ℕ → ℕ → List Call
stores axle from zero = []
stores axle from (suc n) = store (record { axle = axle; identifier = from ∷ []; ems = true; suite = 47; secret = replicate 48 0 }) ∷ stores axle (from + 1) n

-- what axles 1 to 6 hold after these calls, from empty
unfoldable pub held_by : List Call → List ℕ
held_by calls =
    let b = book_from empty calls in
    book.holds 1 b ∷ book.holds 2 b ∷ book.holds 3 b ∷ book.holds 4 b ∷ book.holds 5 b ∷ book.holds 6 b ∷ []

-- axles 1 to 4 store eight each; axle 5 stores four
abbrev pub crowded : List Call
crowded = stores 1 0 8 ++ stores 2 10 8 ++ stores 3 20 8 ++ stores 4 30 8 ++ stores 5 40 4

-- ---- the cases

pub record Cases : Type 0 where
  -- 'ff 01 00 01 00 is an empty RI.'
  pub empty_ri : in_list indication_of (extensions_of (alone (0xff ∷ 0x01 ∷ 0x00 ∷ 0x01 ∷ 0x00 ∷ []))) ≡ parsed (some [])
  -- '00 17 00 00 is EMS.'
  pub ems : in_list ems_of (extensions_of (alone (0x00 ∷ 0x17 ∷ 0x00 ∷ 0x00 ∷ []))) ≡ parsed true
  -- '00 17 00 01 00 is malformed.'
  pub ems_with_data : extensions_of (alone (0x00 ∷ 0x17 ∷ 0x00 ∷ 0x01 ∷ 0x00 ∷ [])) ≡ malformed 4
  pub smallest_hellos : SmallestHellos
  -- 'session with EMS, hello without: 6.' With RI whatever the switches are; without, where the indication is not required.
  pub ems_lost : (s : Switches) → number_on ri_hello (kept true) (connection 0 0) s ≡ 6
  pub ems_lost_bare : (x : ℕ) → number_on bare_hello (kept true) (connection 0 0) (legacy x) ≡ 6
  -- 'without, hello with: full.' With EMS, and 6 bytes of reply.
  pub ems_new : decision_on ems_hello (kept false) (connection 0 0) (legacy 0) ≡ decided full_ems false 6
  -- 'later handshake, flag clear: 9.'
  pub flag_clear : number_on ems_hello empty (connection 1 0) (legacy 1) ≡ 9
  -- 'log 1, 2, 20 not told it resumes: 7 at the third': by order 6's joined call, whatever the secret and whatever the value.
  pub early_greeted : numbers_from (whole fresh) (message 1 [] ∷ message 2 [] ∷ []) ≡ 0 ∷ 0 ∷ []
  pub early_finished : (hash : Algorithm) (secret value : List ℕ) → length secret ≡ 48 → length value ≡ 12
      → finish_number (greeted (full hash)) secret (message 20 value) ≡ 7
  -- None is due there. Where it was told, one is, and the value decides.
  pub early_expected : (hash : Algorithm) (secret : List ℕ) → length secret ≡ 48 → expected_number (greeted (full hash)) secret ≡ 7
  pub told_expected : (hash : Algorithm) (secret : List ℕ) → length secret ≡ 48 → expected_number (greeted (resuming hash)) secret ≡ 0
  pub told_finished : (hash : Algorithm) (secret value : List ℕ) → length secret ≡ 48 → length value ≡ 12
      → finish_number (greeted (resuming hash)) secret (message 20 value)
      ≡ pick (same value (expected_value (history_of (greeted (resuming hash))) secret)) 0 8
  -- Fed otherwise it is 7, told or not.
  pub fed_finished : (first tell : Told) (value : List ℕ) → length value ≡ 12 → accept_number (greeted first) (message 20 value) tell ≡ 7
  -- 'type 0 first leaves the hash empty.'
  pub type_0_first : numbers_from (whole fresh) (message 0 [] ∷ []) ≡ 0 ∷ []
  pub type_0_hashed : entered (after_accept (whole fresh) (message 0 []) (full sha_256)) ≡ []
  -- 'axle 1 stores nine different identifiers into an empty table: holds 8, the first is gone.'
  pub nine : held_by (stores 1 0 9) ≡ 8 ∷ 0 ∷ 0 ∷ 0 ∷ 0 ∷ 0 ∷ []
  pub first_gone : sought 1 (0 ∷ []) (book_from empty (stores 1 0 9)) ≡ none
  -- 'All identifiers differing, from empty. Axles 1 to 4 store eight each; axle 5 stores four: held 7, 7, 7, 7, 4, 0.'
  pub five : held_by crowded ≡ 7 ∷ 7 ∷ 7 ∷ 7 ∷ 4 ∷ 0 ∷ []
  -- 'its fifth: the same.'
  pub fifth : held_by (crowded ++ stores 5 50 1) ≡ 7 ∷ 7 ∷ 7 ∷ 7 ∷ 4 ∷ 0 ∷ []
  -- 'axle 6 then stores one: 6, 7, 7, 7, 4, 1.'
  pub six : held_by (crowded ++ stores 5 50 1 ++ stores 6 60 1) ≡ 6 ∷ 7 ∷ 7 ∷ 7 ∷ 4 ∷ 1 ∷ []
