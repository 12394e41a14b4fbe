-- Seven exchanges, one of each kind, in bytes: what the reply rule of specs/Agreement.antt supposes can be met. It is computed in
-- proofs/Witness.antt.
-- Assumes nothing.
use Rattle.std.specs.Prelude.{◌≡◌, Bool, true, false, List, [], ◌∷◌, ◌++◌, ℕ, replicate}
use Rattle.std.proofs.Math.Option.{Option, none, some}
use Rattle.seqs.specs.Flag.{yes}
use Rattle.sessions.specs.Book.{Book, empty}
use Rattle.sessions.specs.declared.table.Table.{Table}
use Rattle.decision.specs.Connection.{fresh_connection}
use Rattle.decision.specs.Client.{Lent}
use Rattle.decision.specs.Agreement.{Exchange}
use Rattle.decision.specs.declared.connection.Connection.{Connection}
use Rattle.decision.specs.declared.connection.Switches.{Switches}
use Rattle.decision.specs.declared.connection.Decision.{Decision}

pub record Case : Type 0 where
  -- the server's book, and the session that the client has
  pub book : Book
  pub lent : Option Lent
  pub connection : Connection
  -- the ClientHello, with the identifier that it offers, and the ServerHello
  pub hello : List ℕ
  pub offered : List ℕ
  pub answer : List ℕ
  pub resumes : Bool

-- the indication is required, nothing legacy is allowed
abbrev pub strict : Switches
strict = record { indication_required = 1; legacy_full = 0; legacy_resumption = 0 }

-- both calls as they answer it, for axle 3 and a lent output of 35 zeros
pub record Meets (k : Case) : Type 0 where
  pub table : Table
  pub output : List ℕ
  pub server : Decision
  pub client : Decision
  pub exchange : Exchange table k.book 3 k.connection strict strict k.hello (replicate 35 0) output k.answer k.offered k.lent server client
  pub outcome : yes server.resumes ≡ k.resumes

-- ---- what they are put together from

-- header, version 03 03 and a random of zeros
abbrev pub head : ℕ → ℕ → List ℕ
head kind size = kind ∷ 0x00 ∷ 0x00 ∷ size ∷ 0x03 ∷ 0x03 ∷ replicate 32 0

-- one suite, 00 2f, and one method, as a ClientHello lists them and as a ServerHello names them
abbrev pub listed : List ℕ
listed = 0x00 ∷ 0x02 ∷ 0x00 ∷ 0x2f ∷ 0x01 ∷ 0x00 ∷ []

abbrev pub named : List ℕ
named = 0x00 ∷ 0x2f ∷ 0x00 ∷ []

abbrev pub empty_ri : List ℕ
empty_ri = 0xff ∷ 0x01 ∷ 0x00 ∷ 0x01 ∷ 0x00 ∷ []

abbrev pub ems : List ℕ
ems = 0x00 ∷ 0x17 ∷ 0x00 ∷ 0x00 ∷ []

-- verify_data of an earlier handshake
abbrev pub client_data : List ℕ
client_data = 0x01 ∷ 0x02 ∷ 0x03 ∷ 0x04 ∷ 0x05 ∷ 0x06 ∷ 0x07 ∷ 0x08 ∷ 0x09 ∷ 0x0a ∷ 0x0b ∷ 0x0c ∷ []

abbrev pub server_data : List ℕ
server_data = 0x11 ∷ 0x12 ∷ 0x13 ∷ 0x14 ∷ 0x15 ∷ 0x16 ∷ 0x17 ∷ 0x18 ∷ 0x19 ∷ 0x1a ∷ 0x1b ∷ 0x1c ∷ []

abbrev pub later_ri : List ℕ
later_ri = 0xff ∷ 0x01 ∷ 0x00 ∷ 0x0d ∷ 0x0c ∷ client_data

abbrev pub both_ri : List ℕ
both_ri = 0xff ∷ 0x01 ∷ 0x00 ∷ 0x19 ∷ 0x18 ∷ client_data ++ server_data

abbrev pub later_connection : Connection
later_connection = record { completed = 1; indication = 1; barred = 0; client = client_data; server = server_data }

-- one session, identifier 07, with EMS or not, of a suite: in the server's book, and as the client has it
abbrev pub kept : Bool → ℕ → Book
kept e suite = record { axle = 3; identifier = 0x07 ∷ []; ems = e; suite = suite; secret = replicate 48 0 } ∷ []

abbrev pub lent : Bool → ℕ → Option Lent
lent e suite = some (record { identifier = 0x07 ∷ []; original = record { ems = e; suite = suite } })

-- ---- the seven

-- nothing is offered; the server names a new session, 09 09
abbrev pub first_full : Case
first_full =
    record {
      book = empty;
      lent = none;
      connection = fresh_connection;
      hello = head 0x01 0x34 ++ (0x00 ∷ []) ++ listed ++ (0x00 ∷ 0x09 ∷ []) ++ empty_ri ++ ems;
      offered = [];
      answer = head 0x02 0x33 ++ (0x02 ∷ 0x09 ∷ 0x09 ∷ []) ++ named ++ (0x00 ∷ 0x09 ∷ []) ++ empty_ri ++ ems;
      resumes = false;
    }

abbrev pub first_resumed : Case
first_resumed =
    record {
      book = kept true 0x002f;
      lent = lent true 0x002f;
      connection = fresh_connection;
      hello = head 0x01 0x35 ++ (0x01 ∷ 0x07 ∷ []) ++ listed ++ (0x00 ∷ 0x09 ∷ []) ++ empty_ri ++ ems;
      offered = 0x07 ∷ [];
      answer = head 0x02 0x32 ++ (0x01 ∷ 0x07 ∷ []) ++ named ++ (0x00 ∷ 0x09 ∷ []) ++ empty_ri ++ ems;
      resumes = true;
    }

-- the session has no EMS, so that a new one is made; our hello in the other order
abbrev pub session_without_ems : Case
session_without_ems =
    record {
      book = kept false 0x002f;
      lent = lent false 0x002f;
      connection = fresh_connection;
      hello = head 0x01 0x35 ++ (0x01 ∷ 0x07 ∷ []) ++ listed ++ (0x00 ∷ 0x09 ∷ []) ++ ems ++ empty_ri;
      offered = 0x07 ∷ [];
      answer = head 0x02 0x33 ++ (0x02 ∷ 0x09 ∷ 0x09 ∷ []) ++ named ++ (0x00 ∷ 0x09 ∷ []) ++ empty_ri ++ ems;
      resumes = false;
    }

-- the server has lost the session
abbrev pub session_lost : Case
session_lost =
    record {
      book = empty;
      lent = lent true 0x002f;
      connection = fresh_connection;
      hello = head 0x01 0x35 ++ (0x01 ∷ 0x07 ∷ []) ++ listed ++ (0x00 ∷ 0x09 ∷ []) ++ empty_ri ++ ems;
      offered = 0x07 ∷ [];
      answer = head 0x02 0x33 ++ (0x02 ∷ 0x09 ∷ 0x09 ∷ []) ++ named ++ (0x00 ∷ 0x09 ∷ []) ++ empty_ri ++ ems;
      resumes = false;
    }

-- the session has another suite, 00 35, which our hello no longer lists, so that a new one is made
abbrev pub suite_unlisted : Case
suite_unlisted =
    record {
      book = kept true 0x0035;
      lent = lent true 0x0035;
      connection = fresh_connection;
      hello = head 0x01 0x35 ++ (0x01 ∷ 0x07 ∷ []) ++ listed ++ (0x00 ∷ 0x09 ∷ []) ++ empty_ri ++ ems;
      offered = 0x07 ∷ [];
      answer = head 0x02 0x33 ++ (0x02 ∷ 0x09 ∷ 0x09 ∷ []) ++ named ++ (0x00 ∷ 0x09 ∷ []) ++ empty_ri ++ ems;
      resumes = false;
    }

-- renegotiation: RI holds verify_data of the handshake before
abbrev pub later_full : Case
later_full =
    record {
      book = empty;
      lent = none;
      connection = later_connection;
      hello = head 0x01 0x40 ++ (0x00 ∷ []) ++ listed ++ (0x00 ∷ 0x15 ∷ []) ++ later_ri ++ ems;
      offered = [];
      answer = head 0x02 0x4b ++ (0x02 ∷ 0x09 ∷ 0x09 ∷ []) ++ named ++ (0x00 ∷ 0x21 ∷ []) ++ both_ri ++ ems;
      resumes = false;
    }

abbrev pub later_resumed : Case
later_resumed =
    record {
      book = kept true 0x002f;
      lent = lent true 0x002f;
      connection = later_connection;
      hello = head 0x01 0x41 ++ (0x01 ∷ 0x07 ∷ []) ++ listed ++ (0x00 ∷ 0x15 ∷ []) ++ ems ++ later_ri;
      offered = 0x07 ∷ [];
      answer = head 0x02 0x4a ++ (0x01 ∷ 0x07 ∷ []) ++ named ++ (0x00 ∷ 0x21 ∷ []) ++ both_ri ++ ems;
      resumes = true;
    }

pub record Witnesses : Type 0 where
  pub first_full_lem : Meets first_full
  pub first_resumed_lem : Meets first_resumed
  pub session_without_ems_lem : Meets session_without_ems
  pub session_lost_lem : Meets session_lost
  pub suite_unlisted_lem : Meets suite_unlisted
  pub later_full_lem : Meets later_full
  pub later_resumed_lem : Meets later_resumed
