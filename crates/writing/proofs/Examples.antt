-- The hellos of specs/Examples.antt, computed.
-- Assumes nothing.
use mathlib.Core.Path.{refl, ap}
use native.Mathlib.Omega.{arith}
use lib.ListN.{length}
use Rattle.refusal.specs.First.{first_of, first_fault}
use Rattle.refusal.specs.Table.{refusal_of, refusal_at}
use Rattle.message.specs.Numbers.{byte_at, pair_at, triple_at}
use Rattle.message.specs.Frame.{kind_of, body_of, overlong, cut_off, misstated, other_kind}
use Rattle.hello.specs.Layout.{big, field, counted, vector}
use Rattle.hello.specs.Extensions.{shaped, extension, list_of, extensions_of, has, twice}
use Rattle.hello.specs.Fields.{opening, closing, client_layout, server_layout, hello_fault, read_client, read_server}
use Rattle.hello.specs.Written.{written_list, written_block}
use Rattle.writing.specs.Lists.{total, fitting, extensions_from, misshapen}
use Rattle.writing.specs.Messages.{client_bytes, server_bytes}
use Rattle.writing.specs.Promise.{opening_outside, client_outside, server_outside, unblocked, write_number, client_number, server_number}
use Rattle.writing.specs.Examples.{Refuses, Called, Witnesses}

client_refuses : Refuses client_number
unfolding first_of byte_at overlong shaped has twice written_list written_block total fitting misshapen client_bytes opening_outside client_outside unblocked write_number
client_refuses =
    record {
      identifier = refl;
      no_length = refl;
      other_total = refl;
      no_block = refl;
      ems = refl;
      ri = refl;
      twice = refl;
      version = refl;
      ten_before_one = refl;
      one_before_two = refl;
      two_before_three = refl;
      three_before_ten = refl;
    }

server_refuses : Refuses server_number
unfolding first_of byte_at overlong shaped has twice written_list written_block total fitting misshapen server_bytes opening_outside server_outside unblocked write_number
server_refuses =
    record {
      identifier = refl;
      no_length = refl;
      other_total = refl;
      no_block = refl;
      ems = refl;
      ri = refl;
      twice = refl;
      version = refl;
      ten_before_one = refl;
      one_before_two = refl;
      two_before_three = refl;
      three_before_ten = refl;
    }

called : Called
unfolding first_of refusal_of refusal_at byte_at overlong shaped has twice written_list written_block total fitting extensions_from misshapen client_bytes server_bytes opening_outside client_outside server_outside unblocked write_number
called =
    record {
      client = record { refusal = refl; size = refl; output = refl };
      server = record { refusal = refl; size = refl; output = refl };
      client_refused = record { refusal = refl; size = refl; output = refl };
      server_refused = record { refusal = refl; size = refl; output = refl };
    }

pub witnesses : Witnesses
unfolding first_of first_fault byte_at pair_at triple_at kind_of body_of overlong cut_off misstated other_kind big field counted vector shaped extension list_of extensions_of has twice opening closing client_layout server_layout hello_fault read_client read_server written_list written_block misshapen client_bytes server_bytes opening_outside client_outside server_outside unblocked write_number
witnesses =
    record {
      client_smallest = record { sized = refl; writes = refl; accepts = refl; short = refl; reads = refl };
      client_empty_block = record { sized = refl; writes = refl; accepts = refl; short = refl; reads = refl };
      distinct = λ e. omega (arith, ap length e);
      client_offering = record { sized = refl; writes = refl; accepts = refl; short = refl; reads = refl };
      client_unknown = record { sized = refl; writes = refl; accepts = refl; short = refl; reads = refl };
      server_smallest = record { sized = refl; writes = refl; accepts = refl; short = refl; reads = refl };
      server_replying = record { sized = refl; writes = refl; accepts = refl; short = refl; reads = refl };
      client_refuses = client_refuses;
      server_refuses = server_refuses;
      client_higher = refl;
      server_higher = refl;
      client_longest = refl;
      client_overlong = refl;
      server_longest = refl;
      server_overlong = refl;
      called = called;
    }
