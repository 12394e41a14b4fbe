-- The table of places, by computation.
-- Assumes nothing.
use mathlib.Core.Path.{refl}
use Rattle.refusal.specs.First.{first_of, first_fault}
use Rattle.refusal.specs.Table.{refusal_at}
use Rattle.message.specs.Numbers.{byte_at, pair_at, triple_at}
use Rattle.message.specs.Frame.{kind_of, body_of, overlong, cut_off, misstated, header_place, other_kind}
use Rattle.hello.specs.Layout.{big, field, counted, vector}
use Rattle.hello.specs.Extensions.{shaped, extension, list_of, extensions_of, has, twice, repeat_from}
use Rattle.hello.specs.Fields.{opening, closing, client_layout, server_layout, hello_fault, read_client, read_server}
use Rattle.sessions.specs.Book as book
use Rattle.decision.specs.Connection.{closed, wrong_first, refused_by, decision}
use Rattle.decision.specs.Server.{server_wrong, server_outcome, server_number, server_decision}
use Rattle.decision.specs.Client.{bad_offer, client_wrong, client_outcome, client_resumes, fullness, client_number, client_decision}
use Rattle.message_log.specs.Order.{turns, is_due, look, finished_due}
use Rattle.message_log.specs.History.{place_of}
use Rattle.message_log.specs.Calls.{wrong_body, misshapen, out_of_turn, is_finished, accept_number}
use Rattle.message_log.specs.Finish.{finish_number}
use Rattle.gateway.specs.Places.{CutOff, OwnPlace, Shapes, Repeats, Logged, NoPlace, Places}

cut_off_lem : CutOff
unfolding first_of first_fault refusal_at byte_at pair_at triple_at kind_of body_of overlong cut_off misstated header_place other_kind big field counted vector shaped extension list_of extensions_of has twice repeat_from opening closing client_layout server_layout hello_fault read_client read_server book.bad_axle closed wrong_first refused_by decision server_wrong server_outcome server_number server_decision bad_offer client_wrong client_outcome client_resumes fullness client_number client_decision
cut_off_lem =
    record {
      nothing = (refl, refl);
      no_length = (refl, refl);
      length = (refl, refl);
      version = (refl, refl);
      random = (refl, refl);
      identifier = (refl, refl);
      suites = (refl, refl);
      methods = (refl, refl);
      block = (refl, refl);
      type = (refl, refl);
      data_length = (refl, refl);
      server_nothing = (refl, refl);
      server_version = (refl, refl);
      server_identifier = (refl, refl);
      suite = (refl, refl);
      method = (refl, refl);
      server_block = (refl, refl);
      server_type = (refl, refl);
    }

own_place : OwnPlace
unfolding first_of first_fault refusal_at byte_at pair_at triple_at kind_of body_of overlong cut_off misstated header_place other_kind big field counted vector shaped extension list_of extensions_of has twice repeat_from opening closing client_layout server_layout hello_fault read_client read_server book.bad_axle closed wrong_first refused_by decision server_wrong server_outcome server_number server_decision bad_offer client_wrong client_outcome client_resumes fullness client_number client_decision
own_place =
    record {
      kind = (refl, refl);
      kind_short = (refl, refl);
      kind_length = (refl, refl);
      length = (refl, refl);
      length_less = (refl, refl);
      identifier_long = (refl, refl);
      identifier_more = (refl, refl);
      suites_none = (refl, refl);
      suites_odd = (refl, refl);
      suites_more = (refl, refl);
      methods_none = (refl, refl);
      methods_more = (refl, refl);
      block_more = (refl, refl);
      block_less = (refl, refl);
      data_more = (refl, refl);
      server_kind = (refl, refl);
      server_length = (refl, refl);
      server_identifier = (refl, refl);
      server_block = (refl, refl);
      server_data = (refl, refl);
    }

shapes : Shapes
unfolding first_of first_fault refusal_at byte_at pair_at triple_at kind_of body_of overlong cut_off misstated header_place other_kind big field counted vector shaped extension list_of extensions_of has twice repeat_from opening closing client_layout server_layout hello_fault read_client read_server book.bad_axle closed wrong_first refused_by decision server_wrong server_outcome server_number server_decision bad_offer client_wrong client_outcome client_resumes fullness client_number client_decision
shapes =
    record {
      ems = (refl, refl);
      ems_second = (refl, refl);
      ems_more = (refl, refl);
      ri_empty = (refl, refl);
      ri_more = (refl, refl);
      ri_less = (refl, refl);
      server_ems = (refl, refl);
      server_ri = (refl, refl);
    }

repeats : Repeats
unfolding first_of first_fault refusal_at byte_at pair_at triple_at kind_of body_of overlong cut_off misstated header_place other_kind big field counted vector shaped extension list_of extensions_of has twice repeat_from opening closing client_layout server_layout hello_fault read_client read_server book.bad_axle closed wrong_first refused_by decision server_wrong server_outcome server_number server_decision bad_offer client_wrong client_outcome client_resumes fullness client_number client_decision
repeats =
    record {
      abba = (refl, refl);
      abab = (refl, refl);
      aabb = (refl, refl);
      abca = (refl, refl);
      server_abba = (refl, refl);
      malformed_behind = (refl, refl);
    }

logged : Logged
unfolding first_of refusal_at byte_at pair_at triple_at kind_of body_of overlong cut_off misstated header_place wrong_body misshapen turns is_due look finished_due place_of out_of_turn is_finished accept_number finish_number
logged =
    record {
      nothing = (refl, refl);
      header = (refl, refl);
      length = (refl, refl);
      request = (refl, refl);
      finished_short = (refl, refl);
      finished_long = (refl, refl);
    }

no_place : NoPlace
unfolding first_of first_fault refusal_at byte_at pair_at triple_at kind_of body_of overlong cut_off misstated header_place other_kind big field counted vector shaped extension list_of extensions_of has twice repeat_from opening closing client_layout server_layout hello_fault read_client read_server book.bad_axle closed wrong_first refused_by decision server_wrong server_outcome server_number server_decision bad_offer client_wrong client_outcome client_resumes fullness client_number client_decision turns is_due look finished_due place_of wrong_body misshapen out_of_turn is_finished accept_number finish_number
no_place =
    record {
      version = (refl, refl);
      server_version = (refl, refl);
      turn = (refl, refl);
    }

pub places : Places
places =
    record { cut_off_lem = cut_off_lem; own_place = own_place; shapes = shapes; repeats = repeats; logged = logged; no_place = no_place }
