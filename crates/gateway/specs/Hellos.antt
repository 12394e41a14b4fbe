-- The readers' answers as they cross the C face: set out for each of their cases. A refusal is its number,
-- alert and place 'and nothing else': every field beside it is zero.
-- Assumes nothing.
use Rattle.std.specs.Prelude.{Result, Ok, Err}
use Rattle.refusal.specs.declared.Refusal.{Refusal}
use Rattle.refusal.specs.Table.{refusal_of}
use Rattle.hello.specs.Places.{part}
use Rattle.hello.specs.declared.parts.Extensions.{Extensions}
use Rattle.hello.specs.declared.client.ClientHello.{ClientHello}
use Rattle.hello.specs.declared.server.ServerHello.{ServerHello}
use Rattle.gateway.specs.declared.hellos.ClientReading.{ClientReading}
use Rattle.gateway.specs.declared.hellos.ServerReading.{ServerReading}

abbrev pub no_extensions : Extensions
no_extensions = record { block = 0; list = part 0 0; indicated = 0; indication = part 0 0; ems = 0; others = 0 }

abbrev pub no_client_hello : ClientHello
no_client_hello =
    record {
      version = 0;
      random = part 0 0;
      identifier = part 0 0;
      suites = part 0 0;
      methods = part 0 0;
      signal = 0;
      extensions = no_extensions;
    }

abbrev pub no_server_hello : ServerHello
no_server_hello =
    record { version = 0; random = part 0 0; identifier = part 0 0; suite = 0; compression = 0; extensions = no_extensions }

unfoldable pub client_reading : Result ClientHello Refusal → ClientReading
client_reading (Ok hello) = record { refusal = refusal_of 0; hello = hello }
client_reading (Err r) = record { refusal = r; hello = no_client_hello }

unfoldable pub server_reading : Result ServerHello Refusal → ServerReading
server_reading (Ok hello) = record { refusal = refusal_of 0; hello = hello }
server_reading (Err r) = record { refusal = r; hello = no_server_hello }
