-- Order 2, as statements of what the two calls ensure: 'RFC 5246 section 7.4.1.2 says a resuming ClientHello must list the session's
-- suite.' The proofs are proofs/Order2.antt's.
-- Assumes nothing.
use Rattle.std.specs.Prelude.{◌≡◌, Bool, true, false, List, [], ◌∷◌, ◌++◌, ℕ, replicate}
use Rattle.std.proofs.Math.Option.{Option, some}
use Rattle.seqs.specs.Flag.{yes}
use Rattle.sessions.specs.Book.{Session, Book, empty, sought}
use Rattle.sessions.specs.Keeps.{Keeps}
use Rattle.sessions.specs.declared.table.Table.{Table}
use Rattle.hello.specs.Layout.{big}
use Rattle.hello.specs.Fields.{Hello, fields, lists, read_client, read_server}
use Rattle.decision.specs.Connection.{fresh_connection, full_ems, full_legacy, resumed_ems, resumed_legacy, refused_by, decided}
use Rattle.decision.specs.Server.{session_in, server_decision, ServerDecides}
use Rattle.decision.specs.Client.{Lent, client_decision}
use Rattle.decision.specs.Exchanges.{head, empty_ri, ems, kept, lent, Meets, first_resumed}
use Rattle.decision.specs.declared.connection.Connection.{Connection}
use Rattle.decision.specs.declared.connection.Switches.{Switches}
use Rattle.decision.specs.declared.connection.Decision.{Decision}

-- ---- 'On the server, a known session whose suite isn't listed counts as none.'

-- the book b has a session for the hello h, and h does not list its suite
pub record Unlisted (axle : ℕ) (h : Hello) (b : Book) : Type 0 where
  pub session : Session
  pub known : sought axle h.identifier b ≡ some session
  pub unlisted : lists session.suite h.suites ≡ false

-- Two calls with the same arguments but for the table: t keeps a book with such a session, t₀ keeps the empty book. Answer and output are
-- the same. So nothing is asked of the session: not its EMS, not RFC 7627's section 5.3.
abbrev pub UnlistedIsNone : Type 0
UnlistedIsNone =
    (t t₀ : Table) (b : Book) (axle : ℕ) (m : List ℕ) (h : Hello) (c : Connection) (s : Switches) (out out' out₀' : List ℕ) (d d₀ : Decision)
    → Keeps t b → Keeps t₀ empty → read_client m ≡ fields h → Unlisted axle h b → ServerDecides t axle (read_client m) c s out d out'
    → ServerDecides t₀ axle (read_client m) c s out d₀ out₀' → (d ≡ d₀) × (out' ≡ out₀')

-- what it supposes can be met, and by a call that is accepted
pub record UnlistedMet : Type 0 where
  pub table : Table
  pub fresh : Table
  pub book : Book
  pub message : List ℕ
  pub hello : Hello
  pub switches : Switches
  pub output : List ℕ
  pub decision : Decision
  pub keeps : Keeps table book
  pub keeps_none : Keeps fresh empty
  pub reads : read_client message ≡ fields hello
  pub unlisted : Unlisted 3 hello book
  pub decides : ServerDecides table 3 (read_client message) fresh_connection switches (replicate 35 0) decision output
  pub decides_none : ServerDecides fresh 3 (read_client message) fresh_connection switches (replicate 35 0) decision output
  pub accepted : decision.refusal.number ≡ 0

-- ---- whoever resumes, resumes with a suite that is on offer

-- our server: the session that it resumes has a suite that the hello lists
abbrev pub ServerResumesListed : Type 0
ServerResumesListed =
    (t : Table) (b : Book) (axle : ℕ) (m : List ℕ) (h : Hello) (c : Connection) (s : Switches) (out out' : List ℕ) (d : Decision)
    → Keeps t b → read_client m ≡ fields h → ServerDecides t axle (read_client m) c s out d out' → yes d.resumes ≡ true
    → (k : Session) × (sought axle h.identifier b ≡ some k) × (lists k.suite h.suites ≡ true)

-- our client, 'a resuming ServerHello must name the session's suite': the one that it goes on with does
abbrev pub ClientResumesNamed : Type 0
ClientResumesNamed =
    (m i : List ℕ) (h : Hello) (l : Option Lent) (c : Connection) (s : Switches) (d : Decision) → read_server m ≡ fields h
    → d ≡ client_decision (read_server m) i l c s → yes d.resumes ≡ true → (k : Lent) × (l ≡ some k) × (big h.suites ≡ k.original.suite)

-- what both suppose can be met: by the two calls of an exchange that resumes
abbrev pub ResumedMet : Type 0
ResumedMet = (x : Meets first_resumed) × (yes x.server.resumes ≡ true) × (yes x.client.resumes ≡ true)

-- ---- 'What counts as none is none before document 01's outcomes and RFC 7627 section 5.3 are asked': computed, for axle 3 and a hello
-- that names the session 07 of that axle and lists 00 2f and 00 9c

-- with RI, and with EMS or not
abbrev pub hello_of : ℕ → ℕ → List ℕ → List ℕ
hello_of size block extensions =
    head 0x01 size ++ (0x01 ∷ 0x07 ∷ 0x00 ∷ 0x04 ∷ 0x00 ∷ 0x2f ∷ 0x00 ∷ 0x9c ∷ 0x01 ∷ 0x00 ∷ 0x00 ∷ block ∷ []) ++ extensions

abbrev pub without_ems : List ℕ
without_ems = hello_of 0x33 0x05 empty_ri

abbrev pub with_ems : List ℕ
with_ems = hello_of 0x37 0x09 (empty_ri ++ ems)

abbrev pub legacy : ℕ → ℕ → Switches
legacy full resumption = record { indication_required = 1; legacy_full = full; legacy_resumption = resumption }

-- the decision on a hello where the book is b
abbrev pub decided_on : List ℕ → Book → Switches → Decision
decided_on m b s = server_decision 3 (read_client m) (session_in 3 (read_client m) b) fresh_connection s (replicate 35 0)

-- the session has EMS or not, and a suite; the reply is 7 bytes of RI, and 4 of EMS
pub record ServerCases : Type 0 where
  -- with EMS, of 00 35, which isn't listed; the hello has none: full, if legacy full is allowed,
  pub unlisted_full : decided_on without_ems (kept true 0x0035) (legacy 1 0) ≡ decided full_legacy true 7
  -- else 6, whatever is allowed of resumption
  pub unlisted_six : decided_on without_ems (kept true 0x0035) (legacy 0 1) ≡ refused_by 6 0
  -- of 00 2f or 00 9c, which are listed: section 5.3, 6 whatever is allowed
  pub listed_six : decided_on without_ems (kept true 0x002f) (legacy 1 1) ≡ refused_by 6 0
  pub listed_last_six : decided_on without_ems (kept true 0x009c) (legacy 1 1) ≡ refused_by 6 0
  -- without EMS, of 00 9c: legacy resumption, and of 00 35 legacy full
  pub listed_resumed : decided_on without_ems (kept false 0x009c) (legacy 0 1) ≡ decided resumed_legacy true 7
  pub unlisted_legacy : decided_on without_ems (kept false 0x0035) (legacy 1 1) ≡ decided full_legacy true 7
  -- 2f 00 stands across two suites, and 2f 00 is not 00 2f
  pub across : decided_on with_ems (kept true 0x2f00) (legacy 0 0) ≡ decided full_ems true 11

-- ---- 'On the client .. a new 12, .. directly before 6': computed, for a client that offered the session 07 of the suite 00 2f

-- a ServerHello that names an identifier of one byte and a suite
abbrev pub answer_of : ℕ → ℕ → ℕ → ℕ → ℕ → List ℕ → List ℕ
answer_of size identifier high low block extensions =
    head 0x02 size ++ (0x01 ∷ identifier ∷ high ∷ low ∷ 0x00 ∷ 0x00 ∷ block ∷ []) ++ extensions

-- an RI that is wrong in a first handshake
abbrev pub wrong_ri : List ℕ
wrong_ri = 0xff ∷ 0x01 ∷ 0x00 ∷ 0x02 ∷ 0x01 ∷ 0x00 ∷ []

-- the decision on it; the session has EMS or not
abbrev pub judged_on : List ℕ → Bool → Switches → Decision
judged_on m e s = client_decision (read_server m) (0x07 ∷ []) (lent e 0x002f) fresh_connection s

pub record ClientCases : Type 0 where
  -- it resumes with the session's suite
  pub named : judged_on (answer_of 0x32 0x07 0x00 0x2f 0x09 (empty_ri ++ ems)) true (legacy 0 0) ≡ decided resumed_ems true 0
  -- with another one, and with the two bytes the other way round
  pub other : judged_on (answer_of 0x32 0x07 0x00 0x35 0x09 (empty_ri ++ ems)) true (legacy 0 0) ≡ refused_by 12 0
  pub turned : judged_on (answer_of 0x32 0x07 0x2f 0x00 0x09 (empty_ri ++ ems)) true (legacy 0 0) ≡ refused_by 12 0
  -- behind 5: another suite beside a wrong RI
  pub behind_five : judged_on (answer_of 0x33 0x07 0x00 0x35 0x0a (wrong_ri ++ ems)) true (legacy 0 0) ≡ refused_by 5 0
  -- before 6: beside another EMS than the session's, and where legacy resumption is not allowed; with the session's suite these are 6
  pub before_six : judged_on (answer_of 0x2e 0x07 0x00 0x35 0x05 empty_ri) true (legacy 1 1) ≡ refused_by 12 0
  pub named_six : judged_on (answer_of 0x2e 0x07 0x00 0x2f 0x05 empty_ri) true (legacy 1 1) ≡ refused_by 6 0
  pub before_switch : judged_on (answer_of 0x2e 0x07 0x00 0x35 0x05 empty_ri) false (legacy 1 0) ≡ refused_by 12 0
  pub named_switch : judged_on (answer_of 0x2e 0x07 0x00 0x2f 0x05 empty_ri) false (legacy 1 0) ≡ refused_by 6 0
  -- in a ServerHello that does not resume the suite is not judged
  pub full : judged_on (answer_of 0x32 0x08 0x00 0x35 0x09 (empty_ri ++ ems)) true (legacy 0 0) ≡ decided full_ems true 0
