-- The relation between a log and what it stands for.
-- Assumes nothing.
use Rattle.std.specs.Prelude.{◌≡◌, true, List, ◌++◌, ℕ, ◌*◌, ◌≤◌, ◌<◌, length}
use Rattle.message.specs.Frame.{kind_of}
use Rattle.transcript.specs.Choice.{Algorithm}
use Rattle.transcript.specs.Choice.Algorithm.{sha_256, sha_384}
use Rattle.transcript.specs.Carries.{Carries}
use Rattle.message_log.specs.Suite.{in_field}
use Rattle.message_log.specs.Order.{Place, turns, look}
use Rattle.message_log.specs.Order.Place.{beginning, client_hello, server_hello, server_certificate, server_key_exchange, certificate_request, hello_done, hello_done_requested, client_certificate, key_exchange, key_exchange_certified, certificate_verify, client_first, complete_full, resuming_hello, server_first, complete_resumed, nowhere}
use Rattle.message_log.specs.History.{History, place_of, hashed, choice_of, session_hash, verify_data_of}
use Rattle.message_log.specs.History.Side.{client, server}
use Rattle.message_log.specs.Standing.{Standing, Part, history_of, entered, left_of}
use Rattle.message_log.specs.Standing.Standing.{whole, parted}
use Rattle.message_log.specs.Calls.{in_order, accept_number}
use Rattle.message_log.specs.Finish.{Compared}
use Rattle.message_log.specs.declared.state.Log.{Log}

-- the number that a log has for a place; they rise along the order
unfoldable pub number : Place → ℕ
number beginning = 0
number client_hello = 1
number server_hello = 2
number server_certificate = 3
number server_key_exchange = 4
number certificate_request = 5
number hello_done = 6
number hello_done_requested = 7
number client_certificate = 8
number key_exchange = 9
number key_exchange_certified = 10
number certificate_verify = 11
number client_first = 12
number complete_full = 13
number resuming_hello = 14
number server_first = 15
number complete_resumed = 16
number nowhere = 17

-- a log's number for where a history stands
pub record Placed (n : ℕ) (h : History) : Type 0 where
  pub number : n ≡ number (place_of h)
  pub order : in_order h ≡ true

-- and for the hash that was told
abbrev pub hash_number : Algorithm → ℕ
hash_number sha_256 = 0
hash_number sha_384 = 1

-- no message is between parts: what a log keeps of one is blank
pub record Unparted (log : Log) : Type 0 where
  pub kind : log.kind ≡ 0
  pub next : log.next ≡ 0
  pub sha384 : log.sha384 ≡ 0
  pub left : log.left ≡ 0

-- a message is: its type, the place that it leads to, by what was told with its first part, the hash that was told, and how many bytes are
-- left
pub record Parted (log : Log) (h : History) (p : Part) : Type 0 where
  pub kind : log.kind ≡ kind_of p.got
  pub next : log.next ≡ number (look (kind_of p.got) (turns p.tell.resumes (place_of h)))
  pub sha384 : log.sha384 ≡ hash_number p.tell.hash
  pub left : log.left ≡ left_of p
  -- its header is taken, and not all of it
  pub header : 4 ≤ length p.got
  pub some : length p.got < p.total
  -- it is hashed: no HelloRequest
  pub hashed : kind_of p.got ≡ 0 → ⊥
  -- 'The 4-byte header, the turn and the whole length are judged before the first byte is taken': whatever follows, the single call would
  -- accept it
  pub judged : (rest : List ℕ) → length rest ≡ left_of p → accept_number (whole h) (p.got ++ rest) p.tell ≡ 0

abbrev pub PartOf : Log → Standing → Type 0
PartOf log (whole h) = Unparted log
PartOf log (parted h p) = Parted log h p

pub record Stands (log : Log) (s : Standing) : Type 0 where
  pub place : Placed log.place (history_of s)
  -- 'until that is taken whole the log carries both': the choice is that of the messages that are accepted
  pub hash : Carries log.hash (choice_of (history_of s)) (entered s)
  -- each hashed message has at most 16,388 bytes and leads to a place of a higher number, and there are 17 of those: neither hash's own
  -- bound is ever reached
  pub short : length (hashed (history_of s)) ≤ 16388 * number (place_of (history_of s))
  pub session : log.session ≡ in_field (session_hash (history_of s))
  pub client : log.client ≡ verify_data_of client (history_of s)
  pub server : log.server ≡ verify_data_of server (history_of s)
  -- no Finished is in it but such as were checked
  pub compared : Compared (history_of s)
  pub part : PartOf log s

-- So a log is one value for what it stands for. The proof is proofs/Alone.antt.
abbrev pub OneLog : Type 0
OneLog = (log log' : Log) (s : Standing) → Stands log s → Stands log' s → log ≡ log'
