-- What the answer of a hello reader tells a C caller. It is said of the answer as it crosses the face: of every answer that the call's
-- `ensures` allows. Proved in proofs/Readings.antt.
-- Assumes nothing.
use Rattle.std.specs.Prelude.{◌≡◌, List, ℕ}
use Rattle.refusal.specs.Listed.{Listed}
use Rattle.refusal.specs.declared.Refusal.{Refusal}
use Rattle.hello.specs.Fields.{Reading, fault, read_client, read_server}
use Rattle.hello.specs.Places.{client_answer, server_answer}
use Rattle.hello.specs.Learnt.{ClientLearnt, ServerLearnt}
use Rattle.gateway.specs.Hellos.{no_client_hello, no_server_hello, client_reading, server_reading}
use Rattle.gateway.specs.declared.hellos.ClientReading.{ClientReading}
use Rattle.gateway.specs.declared.hellos.ServerReading.{ServerReading}

-- a refusal beside a hello, answered to a message of that reading
pub record Tells {Hello : Type 0} (reading : Reading) (Learnt : Hello → Type 0) (nothing : Hello) (refusal : Refusal) (hello : Hello) : Type 0 where
  -- number 0: every place of the hello is within the message and holds the bytes of the reading's field, every flag says what the
  -- reading says, and the fields are within document 01's bounds
  pub read : refusal.number ≡ 0 → Learnt hello
  -- any other number is that of the reading's fault, its place is the fault's, and the hello is zeros
  pub refused : (refusal.number ≡ 0 → ⊥) → (reading ≡ fault refusal.number refusal.place) × (hello ≡ nothing)
  -- the number is one of the table, with its alert, and a place goes with 1 and 2 alone
  pub listed : Listed refusal

-- of `axle_read_client_hello`
abbrev pub ClientAnswerTells : Type 0
ClientAnswerTells =
    (m : List ℕ) (r : ClientReading) → r ≡ client_reading (client_answer (read_client m))
    → Tells (read_client m) (ClientLearnt m) no_client_hello r.refusal r.hello

-- of `axle_read_server_hello`
abbrev pub ServerAnswerTells : Type 0
ServerAnswerTells =
    (m : List ℕ) (r : ServerReading) → r ≡ server_reading (server_answer (read_server m))
    → Tells (read_server m) (ServerLearnt m) no_server_hello r.refusal r.hello
