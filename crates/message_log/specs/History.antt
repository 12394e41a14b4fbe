-- What a log stands for: its history, and what document 01, 'The message log', and order 6 make of it.
-- Assumes nothing.
use Rattle.std.specs.Prelude.{Bool, false, not, ◌&&◌, ◌||◌, List, [], ◌++◌, ℕ, suc, eqb, replicate}
use Rattle.seqs.specs.Pick.{pick}
use Rattle.message.specs.Frame.{kind_of, body_of}
use Rattle.transcript.specs.Choice.{Algorithm, Choice, algorithm_of}
use Rattle.transcript.specs.Choice.Algorithm.{sha_256}
use Rattle.transcript.specs.Choice.Choice.{unchosen, chosen}
use Rattle.transcript.specs.Carries.{digest_of}
use Rattle.message_log.specs.Told.{Told}
use Rattle.message_log.specs.Order.{Place, turns, look}
use Rattle.message_log.specs.Order.Place.{beginning}

-- What a call is handed beside its message.
pub data Beside : Type 0 where
  -- the accepting call: what is told, of account with a ServerHello alone
  told : Told → Beside
  -- order 6's joined call: the secret that the Finished was checked under
  under : List ℕ → Beside

-- what was told; with a Finished nothing is, and these two are of no account
unfoldable pub tells : Beside → Told
tells (told tell) = tell
tells (under secret) = record { resumes = false; hash = sha_256 }

-- The messages that were accepted, by either call, the latest outermost.
pub data History : Type 0 where
  fresh : History
  accepted : History → List ℕ → Beside → History

-- where the handshake stands; type 0 'is accepted anywhere'
unfoldable pub place_of : History → Place
place_of fresh = beginning
place_of (accepted h m b) = pick (eqb (kind_of m) 0) (place_of h) (look (kind_of m) (turns (tells b).resumes (place_of h)))

-- the hashed bytes: 'all accepted messages, headers included'; type 0 'isn't hashed'
unfoldable pub hashed : History → List ℕ
hashed fresh = []
hashed (accepted h m b) = pick (eqb (kind_of m) 0) (hashed h) (hashed h ++ m)

-- Order 7: 'The caller states, with the ServerHello', type 2, 'which of the two hashes the suite uses'; none is chosen before it
unfoldable pub choice_of : History → Choice
choice_of fresh = unchosen
choice_of (accepted h m b) = pick (eqb (kind_of m) 2) (chosen (tells b).hash) (choice_of h)

-- the hash of the suite
abbrev pub suite_of : History → Algorithm
suite_of h = algorithm_of (choice_of h)

-- 'The session hash is' the suite's hash 'over all accepted messages, headers included, from ClientHello through ClientKeyExchange': what was
-- hashed when the ClientKeyExchange, type 16, was accepted. 'It stays the same afterwards.' None before it.
unfoldable pub session_hash : History → List ℕ
session_hash fresh = []
session_hash (accepted h m b) = pick (eqb (kind_of m) 16) (digest_of (suite_of h) (hashed h ++ m)) (session_hash h)

-- was a ClientKeyExchange, type 16, accepted?
unfoldable pub exchanged : History → Bool
exchanged fresh = false
exchanged (accepted h m b) = eqb (kind_of m) 16 || exchanged h

-- 'With the ServerHello', type 2, 'the log is told whether it resumes'
unfoldable pub resumed : History → Bool
resumed fresh = false
resumed (accepted h m b) = pick (eqb (kind_of m) 2) (tells b).resumes (resumed h)

-- how many Finished, type 20, are taken; 'both'
unfoldable pub finished_taken : History → ℕ
finished_taken fresh = 0
finished_taken (accepted h m b) = pick (eqb (kind_of m) 20) (suc (finished_taken h)) (finished_taken h)

unfoldable pub complete : History → Bool
complete h = eqb (finished_taken h) 2

-- is the next Finished the server's? '20 (client), 20 (server)': with one taken; where it resumes '20 (server), 20 (client)': with none
unfoldable pub from_server : History → Bool
from_server h = eqb (finished_taken h) (pick (resumed h) 0 1)

pub data Side : Type 0 where
  client server : Side

-- is it this side's?
unfoldable pub is_from : Side → History → Bool
is_from client h = not (from_server h)
is_from server h = from_server h

-- verify_data of a side's Finished, once that is taken; zeros before
unfoldable pub verify_data_of : Side → History → List ℕ
verify_data_of side fresh = replicate 12 0
verify_data_of side (accepted h m b) = pick (eqb (kind_of m) 20 && is_from side h) (body_of m) (verify_data_of side h)
