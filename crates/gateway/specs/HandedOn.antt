-- Order 9: 'Every call that answers 1 or 2 from a message hands it on', said of the calls by what they ensure. Proved in
-- proofs/HandedOn.antt; that each can answer so is computed in the table of specs/Places.antt.
-- Assumes nothing.
use Rattle.std.specs.Prelude.{◌≡◌, true, List, ℕ}
use Rattle.std.proofs.Math.Option.{Option}
use Rattle.refusal.specs.Table.{placed}
use Rattle.hello.specs.Fields.{read_client, read_server}
use Rattle.hello.specs.Places.{client_answer, server_answer}
use Rattle.sessions.specs.declared.table.Table.{Table}
use Rattle.decision.specs.Server.{ServerDecides}
use Rattle.decision.specs.Client.{Lent, client_decision}
use Rattle.decision.specs.declared.connection.Connection.{Connection}
use Rattle.decision.specs.declared.connection.Switches.{Switches}
use Rattle.decision.specs.declared.connection.Decision.{Decision}
use Rattle.message_log.specs.Told.{Told}
use Rattle.message_log.specs.Promise.{Accepts, Finishes, Feeds}
use Rattle.message_log.specs.declared.state.Log.{Log}
use Rattle.message_log.specs.declared.answers.Accepted.{Accepted}
use Rattle.message_log.specs.declared.answers.Fed.{Fed}
use Rattle.gateway.specs.Hellos.{client_reading, server_reading}
use Rattle.gateway.specs.declared.hellos.ClientReading.{ClientReading}
use Rattle.gateway.specs.declared.hellos.ServerReading.{ServerReading}

-- A decision that answers 1 or 2 answers the very refusal, number, alert and place, that the reader answers to the hello: for every table,
-- axle, connection, switches and output
abbrev pub ServerHandsOn : Type 0
ServerHandsOn =
    (t : Table) (axle : ℕ) (m : List ℕ) (c : Connection) (s : Switches) (out out' : List ℕ) (d : Decision) (r : ClientReading)
    → ServerDecides t axle (read_client m) c s out d out' → r ≡ client_reading (client_answer (read_client m))
    → placed d.refusal.number ≡ true → d.refusal ≡ r.refusal

-- and of the client's side, for every offer
abbrev pub ClientHandsOn : Type 0
ClientHandsOn =
    (m i : List ℕ) (l : Option Lent) (c : Connection) (s : Switches) (d : Decision) (r : ServerReading)
    → d ≡ client_decision (read_server m) i l c s → r ≡ server_reading (server_answer (read_server m))
    → placed d.refusal.number ≡ true → d.refusal ≡ r.refusal

-- The calls of the log answer a malformed message alike, whatever logs they are passed; that by allowance where it lends a first part.
abbrev pub LogHandsOn : Type 0
LogHandsOn =
    (log log' : Log) (secret m : List ℕ) (tell : Told) (r r' : Accepted) → Accepts log m tell r → Finishes log' secret m r'
    → r.refusal.number ≡ 1 → r'.refusal.number ≡ 1 → r.refusal ≡ r'.refusal

abbrev pub PartHandsOn : Type 0
PartHandsOn =
    (log log' : Log) (m : List ℕ) (k : ℕ) (tell : Told) (r : Accepted) (r' : Fed) → Accepts log m tell r → Feeds log' m k tell r'
    → r.refusal.number ≡ 1 → r'.refusal.number ≡ 1 → r.refusal ≡ r'.refusal
