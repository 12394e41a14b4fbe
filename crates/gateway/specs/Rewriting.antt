-- 'writing what was read gives the same bytes', of the calls that a C caller makes one after the other: a hello is read, its extensions are
-- handed out one by one, and its fields and these are written. Proved in proofs/Rewriting.antt.
-- Assumes nothing.
use Rattle.std.specs.Prelude.{◌≡◌, List, ℕ}
use Rattle.seqs.specs.Bytes.{Bytes}
use Rattle.seqs.specs.Flag.{yes}
use Rattle.hello.specs.Extensions.{Extension}
use Rattle.hello.specs.Fields.{read_client, read_server}
use Rattle.hello.specs.Places.{bytes_at, client_answer, server_answer}
use Rattle.hello.specs.Next.{HandsOut}
use Rattle.writing.specs.Lists.{types_of, lengths_of, data_of}
use Rattle.writing.specs.Promise.{WritesClient, WritesServer}
use Rattle.writing.specs.RoundTrip.{Rewrites}
use Rattle.writing.specs.declared.judging.Written.{Written}
use Rattle.gateway.specs.Hellos.{client_reading, server_reading}
use Rattle.gateway.specs.declared.hellos.ClientReading.{ClientReading}
use Rattle.gateway.specs.declared.hellos.ServerReading.{ServerReading}

-- axle_next_extension hands out some list from place at of m on; and whatever it handed out, lent to a writer, gives m again
pub record Again (m : List ℕ) (at : ℕ) (Writing : List ℕ → List ℕ → List ℕ → List ℕ → List ℕ → Written → Type 0) : Type 0 where
  pub extensions : List Extension
  pub handed : HandsOut m at extensions
  pub written : (es : List Extension) → HandsOut m at es → (out out' : List ℕ) (w : Written)
      → Writing (types_of es) (lengths_of es) (data_of es) out out' w → Rewrites m out out' w

-- axle_read_client_hello, axle_next_extension, axle_write_client_hello
abbrev pub ClientAgain : Type 0
ClientAgain =
    (m : List ℕ) (r : ClientReading) → Bytes m → r ≡ client_reading (client_answer (read_client m)) → r.refusal.number ≡ 0
    → (let h = r.hello in
    Again m h.extensions.list.at
    (WritesClient h.version (bytes_at m h.random) (bytes_at m h.identifier) (bytes_at m h.suites) (bytes_at m h.methods) (yes h.extensions.block)))

-- axle_read_server_hello, axle_next_extension, axle_write_server_hello
abbrev pub ServerAgain : Type 0
ServerAgain =
    (m : List ℕ) (r : ServerReading) → Bytes m → r ≡ server_reading (server_answer (read_server m)) → r.refusal.number ≡ 0
    → (let h = r.hello in
    Again m h.extensions.list.at
    (WritesServer h.version (bytes_at m h.random) (bytes_at m h.identifier) h.suite h.compression (yes h.extensions.block)))
