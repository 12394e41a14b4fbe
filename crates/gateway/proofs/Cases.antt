-- The table of cases, by computation.
-- Assumes nothing.
use mathlib.Core.Path.{◌≡◌, refl}
use mathlib.Core.Bool.{Bool, true, false, not}
use mathlib.Core.List.{List, [], ◌∷◌}
use Prim.Native.Nat.{ℕ}
use lib.ListN.{length}
use Rattle.seqs.specs.Pick.{pick}
use Rattle.refusal.specs.First.{first_of, first_fault}
use Rattle.refusal.specs.Table.{refusal_of, refusal_at}
use Rattle.octets.specs.Same.{same}
use Rattle.message.specs.Numbers.{byte_at, pair_at, triple_at}
use Rattle.message.specs.Frame.{kind_of, body_of, overlong, cut_off, misstated, other_kind}
use Rattle.hello.specs.Layout.{big, field, counted, vector}
use Rattle.hello.specs.Extensions.{shaped, extension, list_of, extensions_of, has, twice, content_of, indication_of}
use Rattle.hello.specs.Fields.{opening, closing, client_layout, server_layout, lists, hello_fault, read_client, read_server}
use Rattle.hello.specs.Written.{written_list, written_block}
use Rattle.decision.specs.Connection.{closed, wrong_first, decided, decision}
use Rattle.decision.specs.Reply.{reply_list, reply_of}
use Rattle.decision.specs.Server.{on_offer, session_in, server_wrong, server_flag, resumable, server_outcome, server_reply, server_number, server_decision}
use Rattle.transcript.specs.Choice.{Algorithm}
use Rattle.message_log.specs.Told.{Told, resuming}
use Rattle.message_log.specs.Order.{turns, is_due, look, finished_due}
use Rattle.message_log.specs.History.{tells, place_of, hashed}
use Rattle.message_log.specs.Standing.{history_of}
use Rattle.message_log.specs.Calls.{wrong_body, misshapen, out_of_turn, is_finished, accept_number, after_accept}
use Rattle.message_log.specs.Finish.{expected_value, expected_number, finish_number}
use Rattle.sessions.specs.Book as book
use Rattle.gateway.specs.Cases.{SmallestHellos, Cases, message, greeted, numbers_from, held_by}

smallest_hellos : SmallestHellos
unfolding first_fault byte_at pair_at triple_at kind_of body_of overlong cut_off misstated other_kind big field counted vector opening closing client_layout server_layout twice hello_fault read_client read_server
smallest_hellos = record { client_size = refl; client = refl; client_less = refl; server_size = refl; server = refl; server_less = refl }

by_value : (b : Bool) → first_of ((8, not b) ∷ []) ≡ pick b 0 8
unfolding first_of
by_value true = refl
by_value false = refl

fed_finished : (resumes : Bool) (hash : Algorithm) (tell : Told) (value : List ℕ) → length value ≡ 12
    → accept_number (greeted (record { resumes = resumes; hash = hash })) (message 20 value) tell ≡ 7
unfolding first_of byte_at pair_at triple_at kind_of body_of overlong cut_off misstated turns is_due look tells place_of wrong_body misshapen out_of_turn is_finished accept_number after_accept
fed_finished true hash tell value e = rw e
fed_finished false hash tell value e = rw e

pub cases : Cases
unfolding first_of first_fault refusal_of refusal_at same byte_at pair_at triple_at kind_of body_of overlong cut_off misstated other_kind big field counted vector shaped extension list_of extensions_of has twice content_of indication_of opening closing client_layout lists hello_fault read_client written_list written_block closed wrong_first decided decision reply_list reply_of on_offer session_in server_wrong server_flag resumable server_outcome server_reply server_number server_decision turns is_due look finished_due tells place_of hashed wrong_body misshapen out_of_turn is_finished accept_number after_accept expected_number finish_number book.many book.oldest book.strike book.is_of book.is_name book.is_named book.fuller book.fullest book.struck book.written book.bad_axle book.bad_name book.bad_secret book.store_number book.after book.book_from numbers_from held_by
cases =
    record {
      empty_ri = refl;
      ems = refl;
      ems_with_data = refl;
      smallest_hellos = smallest_hellos;
      ems_lost = λ s. refl;
      ems_lost_bare = λ x. refl;
      ems_new = refl;
      flag_clear = refl;
      early_greeted = refl;
      early_finished = λ hash secret value e f. rw (e, f);
      early_expected = λ hash secret e. rw e;
      told_expected = λ hash secret e. rw e;
      told_finished = λ hash secret value e f. rw (e, f) (by_value (same value (expected_value (history_of (greeted (resuming hash))) secret)));
      fed_finished = λ first. fed_finished first.resumes first.hash;
      type_0_first = refl;
      type_0_hashed = refl;
      nine = refl;
      first_gone = refl;
      five = refl;
      fifth = refl;
      six = refl;
    }
