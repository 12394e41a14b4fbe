-- Document 01's example and a few more, computed from the definition.
-- Assumes nothing.
use mathlib.Core.Path.{◌≡◌, refl}
use mathlib.Core.List.{List, [], ◌∷◌, ◌++◌}
use Prim.Native.Nat.{ℕ}
use lib.ListN.{replicate}
use Rattle.refusal.specs.First.{first_of, first_fault}
use Rattle.refusal.specs.Table.{refusal_at}
use Rattle.message.specs.Numbers.{byte_at, pair_at, triple_at}
use Rattle.message.specs.Frame.{kind_of, body_of, overlong, cut_off, misstated, other_kind, header_place}
use Rattle.hello.specs.Layout.{big, field, counted, vector}
use Rattle.hello.specs.Extensions.{shaped, extension, list_of, extensions_of, has, twice, repeat_from, content_of, indication_of}
use Rattle.hello.specs.Fields.{opening, closing, client_layout, lists, hello_fault, read_client}
use Rattle.sessions.specs.Book.{bad_axle}
use Rattle.decision.specs.Connection.{closed, wrong_first, refused_by, decision}
use Rattle.decision.specs.Server.{session_in, server_wrong, server_outcome, server_number, server_decision}
use Rattle.message_log.specs.Order.{turns, is_due, finished_due}
use Rattle.message_log.specs.History.{place_of}
use Rattle.message_log.specs.Calls.{wrong_body, misshapen, out_of_turn, is_finished, accept_number, after_accept}
use Rattle.message_log.specs.Finish.{finish_number}
use Rattle.cases.specs.Contents.{count_of, lengths_in, lengths_of, contents_size, parts_of, bodies_of, total, good_case}
use Rattle.cases.specs.Digits.{ascii, digits, decimal}
use Rattle.listing.specs.Texts.{header, refused, answered, column_of, printed}
use Rattle.listing.specs.Listing.{kind_column, decision_on, decision_refusal, hello_column, log_number, log_refusal, log_after, line_for, lines, listing}

example : listing (2 ∷ 0 ∷ 4 ∷ 0 ∷ 4 ∷ 0 ∷ 0 ∷ 0 ∷ 0 ∷ 16 ∷ 0 ∷ 0 ∷ 0 ∷ []) ≡ ascii "message type log hello\n1 0 0 -\n2 16 7 -\n"
unfolding first_of refusal_at byte_at pair_at triple_at kind_of body_of overlong cut_off misstated turns is_due place_of wrong_body misshapen out_of_turn is_finished accept_number after_accept count_of lengths_in lengths_of contents_size parts_of bodies_of total good_case ascii digits decimal header answered column_of printed kind_column hello_column log_number log_refusal log_after line_for lines listing
example = refl

-- no count byte
nothing : listing [] ≡ ascii "message type log hello\ncontents refused\n"
unfolding byte_at count_of contents_size good_case ascii header refused listing
nothing = refl

-- a count of 0 and nothing else
no_messages : listing (0 ∷ []) ≡ ascii "message type log hello\n"
unfolding byte_at count_of lengths_in lengths_of contents_size parts_of bodies_of total good_case ascii header lines listing
no_messages = refl

-- a Finished goes to the joined call: not due it is 7, and with a byte less 1, at its length
early : listing (2 ∷ 0 ∷ 16 ∷ 0 ∷ 15 ∷ 20 ∷ 0 ∷ 0 ∷ 12 ∷ replicate 12 0 ++ (20 ∷ 0 ∷ 0 ∷ 11 ∷ replicate 11 0)) ≡ ascii "message type log hello\n1 20 7 -\n2 20 1:1 -\n"
unfolding first_of refusal_at byte_at pair_at triple_at kind_of body_of overlong cut_off misstated header_place turns is_due finished_due place_of wrong_body misshapen is_finished finish_number count_of lengths_in lengths_of contents_size parts_of bodies_of total good_case ascii digits decimal header answered column_of printed kind_column hello_column log_number log_refusal line_for lines listing
early = refl

-- an empty body has no type and is cut off at its first place
empty_body : listing (1 ∷ 0 ∷ 0 ∷ []) ≡ ascii "message type log hello\n1 - 1:0 -\n"
unfolding first_of refusal_at byte_at pair_at kind_of overlong cut_off misstated header_place is_finished accept_number count_of lengths_in lengths_of contents_size parts_of bodies_of total good_case ascii digits decimal header answered column_of printed kind_column hello_column log_number log_refusal line_for lines listing
empty_body = refl

-- a ClientHello of one suite and one method, n bytes of body, and what stands behind the methods from place 45 on
abbrev hello_with : ℕ → List ℕ → List ℕ
hello_with n rest = 1 ∷ 0 ∷ 0 ∷ n ∷ 3 ∷ 3 ∷ replicate 32 0 ++ (0 ∷ 0 ∷ 2 ∷ 0 ∷ 47 ∷ 1 ∷ 0 ∷ []) ++ rest

-- one byte behind the methods: the length of the block is cut off
cut_block : listing ((1 ∷ 0 ∷ 46 ∷ []) ++ hello_with 42 (0 ∷ [])) ≡ ascii "message type log hello\n1 1 0 1:46\n"
unfolding first_of first_fault refusal_at byte_at pair_at triple_at kind_of body_of overlong cut_off misstated other_kind big field counted vector opening closing client_layout hello_fault read_client bad_axle refused_by decision session_in server_outcome server_number server_decision turns is_due place_of wrong_body misshapen out_of_turn is_finished accept_number count_of lengths_in lengths_of contents_size parts_of bodies_of total good_case ascii digits decimal header answered column_of printed kind_column decision_on decision_refusal hello_column log_number log_refusal line_for lines listing
cut_block = refl

-- type 5 twice: the second stands at place 51
repeated : listing ((1 ∷ 0 ∷ 55 ∷ []) ++ hello_with 51 (0 ∷ 8 ∷ 0 ∷ 5 ∷ 0 ∷ 0 ∷ 0 ∷ 5 ∷ 0 ∷ 0 ∷ [])) ≡ ascii "message type log hello\n1 1 0 2:51\n"
unfolding first_of first_fault refusal_at byte_at pair_at triple_at kind_of body_of overlong cut_off misstated other_kind big field counted vector shaped extension list_of extensions_of has twice repeat_from opening closing client_layout hello_fault read_client bad_axle refused_by decision session_in server_outcome server_number server_decision turns is_due place_of wrong_body misshapen out_of_turn is_finished accept_number count_of lengths_in lengths_of contents_size parts_of bodies_of total good_case ascii digits decimal header answered column_of printed kind_column decision_on decision_refusal hello_column log_number log_refusal line_for lines listing
repeated = refl

-- neither EMS nor a legacy handshake allowed: 6, which has no place
forbidden : listing ((1 ∷ 0 ∷ 45 ∷ []) ++ hello_with 41 []) ≡ ascii "message type log hello\n1 1 0 6\n"
unfolding first_of first_fault refusal_at byte_at pair_at triple_at kind_of body_of overlong cut_off misstated other_kind big field counted vector has twice content_of indication_of opening closing client_layout lists hello_fault read_client bad_axle closed wrong_first refused_by decision session_in server_wrong server_outcome server_number server_decision turns is_due place_of wrong_body misshapen out_of_turn is_finished accept_number count_of lengths_in lengths_of contents_size parts_of bodies_of total good_case ascii digits decimal header answered column_of printed kind_column decision_on decision_refusal hello_column log_number log_refusal line_for lines listing
forbidden = refl
