-- What each call answers, and the history after it (document 01, 'The message log'; the order of the numbers is that of 'Numbers
-- answered'). The call for a Finished is specs/Finish.antt, that by allowance specs/Feed.antt.
-- Assumes nothing.
use Rattle.std.specs.Prelude.{Bool, true, not, ◌&&◌, ◌||◌, List, [], ◌∷◌, ℕ, eqb, length, replicate}
use Rattle.seqs.specs.Pick.{pick}
use Rattle.seqs.specs.Flag.{bit}
use Rattle.refusal.specs.First.{first_of}
use Rattle.refusal.specs.Table.{refusal_of}
use Rattle.message.specs.Frame.{kind_of, body_of, overlong, misstated, header_place}
use Rattle.message_log.specs.Told.{Told}
use Rattle.message_log.specs.Suite.{in_field}
use Rattle.message_log.specs.Order.{turns, is_due}
use Rattle.message_log.specs.History.{History, tells, place_of, session_hash, exchanged, resumed, complete, verify_data_of}
use Rattle.message_log.specs.History.Side.{client, server}
use Rattle.message_log.specs.History.History.{fresh, accepted}
use Rattle.message_log.specs.History.Beside.{told}
use Rattle.message_log.specs.Standing.{Standing, history_of, between}
use Rattle.message_log.specs.Standing.Standing.{whole}
use Rattle.message_log.specs.declared.answers.SessionHash.{SessionHash}
use Rattle.message_log.specs.declared.answers.Finished.{Finished}

-- 'Type 0 must have no body'; 'A Finished body is 12 bytes, else 1.'
unfoldable pub wrong_body : ℕ → ℕ → Bool
wrong_body kind n = (eqb kind 0 && not (eqb n 0)) || (eqb kind 20 && not (eqb n 12))

unfoldable pub misshapen : List ℕ → Bool
misshapen m = wrong_body (kind_of m) (length (body_of m))

-- the message by itself, the same for every log
unfoldable pub shape_number : List ℕ → ℕ
shape_number m = first_of ((10, overlong m) ∷ (1, misstated m) ∷ (1, misshapen m) ∷ [])

-- Order 9: where it broke, the place beside every 1, the same for every log. Under 4 bytes 'A field cut off by the end of what holds it
-- gives that end'; a length other than stated gives 1; 'A Finished or type 0 body of wrong length gives 1, the place of the length.'
abbrev pub broken_at : List ℕ → ℕ
broken_at m = header_place m

-- type 0 'is accepted anywhere'; 'Anything else is 7.'
unfoldable pub out_of_turn : History → List ℕ → Told → Bool
out_of_turn h m tell = not (eqb (kind_of m) 0) && not (is_due (kind_of m) (turns tell.resumes (place_of h)))

-- was each message in turn? From fresh by the calls there is no other history.
unfoldable pub in_order : History → Bool
in_order fresh = true
in_order (accepted h m b) = not (out_of_turn h m (tells b)) && in_order h

-- order 6: 'type 20 fed otherwise is 7'
unfoldable pub is_finished : List ℕ → Bool
is_finished m = eqb (kind_of m) 20

-- accepting a message; order 4: '7 for another log call between parts', here and below in 7's rank
unfoldable pub accept_number : Standing → List ℕ → Told → ℕ
accept_number s m tell =
    first_of
    ((10, overlong m)
    ∷ (1, misstated m)
    ∷ (1, misshapen m)
    ∷ (7, between s)
    ∷ (7, is_finished m)
    ∷ (7, out_of_turn (history_of s) m tell)
    ∷ [])

unfoldable pub after_accept : Standing → List ℕ → Told → Standing
after_accept s m tell = pick (eqb (accept_number s m tell) 0) (whole (accepted (history_of s) m (told tell))) s

-- the session hash; 'asked earlier, or in a resumed log, it is 7'
unfoldable pub session_number : Standing → ℕ
session_number s = first_of ((7, between s) ∷ (7, not (exchanged (history_of s))) ∷ [])

unfoldable pub session_hash_of : Standing → SessionHash
session_hash_of s =
    record {
      refusal = refusal_of (session_number s);
      length = pick (eqb (session_number s) 0) (length (session_hash (history_of s))) 0;
      hash = pick (eqb (session_number s) 0) (in_field (session_hash (history_of s))) (replicate 48 0);
    }

-- what completion asks of a log: are both Finished taken, does it resume, and 'both values', the client's and the server's; nothing before,
-- and nothing between parts
unfoldable pub finished_of : Standing → Finished
finished_of s =
    pick (not (between s) && complete (history_of s))
    (record {
      complete = 1;
      resumed = bit (resumed (history_of s));
      client = verify_data_of client (history_of s);
      server = verify_data_of server (history_of s);
    })
    (record { complete = 0; resumed = 0; client = replicate 12 0; server = replicate 12 0 })
