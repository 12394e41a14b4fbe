-- The order of a handshake's messages (document 01, 'The message log'), as an automaton on their types (HandshakeType of RFC 5246,
-- section 7.4).
-- Assumes nothing.
use Rattle.std.specs.Prelude.{Bool, true, false, ◌||◌, List, [], ◌∷◌, ℕ, eqb}
use Rattle.seqs.specs.Pick.{pick}

-- Where a handshake stands, named by the message that was accepted last.
pub data Place : Type 0 where
  beginning : Place
  client_hello : Place
  server_hello : Place
  server_certificate : Place
  server_key_exchange : Place
  certificate_request : Place
  hello_done : Place  -- with no CertificateRequest before it
  hello_done_requested : Place  -- after a CertificateRequest
  client_certificate : Place
  key_exchange : Place  -- the ClientKeyExchange, with no client's Certificate before it
  key_exchange_certified : Place  -- the ClientKeyExchange after a client's Certificate
  certificate_verify : Place
  client_first : Place  -- the client's Finished, the first of the two
  complete_full : Place
  resuming_hello : Place  -- a ServerHello that was told to resume
  server_first : Place  -- the server's Finished, the first of the two
  complete_resumed : Place
  nowhere : Place  -- where a message leads that is out of turn

-- 'Full order by type: 1, 2, optional 11, optional 12, optional 13, 14, then 11 exactly if 13 was seen, 16, 15 allowed once if that
-- second 11 was seen, 20 (client), 20 (server). With the ServerHello the log is told whether it resumes; then 1, 2, 20 (server), 20
-- (client).' For each place the types that are in turn, each with the place that it leads to.
unfoldable pub turns : Bool → Place → List (ℕ × Place)
turns resumes beginning = (1, client_hello) ∷ []
turns false client_hello = (2, server_hello) ∷ []
turns resumes server_hello = (11, server_certificate) ∷ (12, server_key_exchange) ∷ (13, certificate_request) ∷ (14, hello_done) ∷ []
turns resumes server_certificate = (12, server_key_exchange) ∷ (13, certificate_request) ∷ (14, hello_done) ∷ []
turns resumes server_key_exchange = (13, certificate_request) ∷ (14, hello_done) ∷ []
turns resumes certificate_request = (14, hello_done_requested) ∷ []
turns resumes hello_done = (16, key_exchange) ∷ []
turns resumes hello_done_requested = (11, client_certificate) ∷ []
turns resumes client_certificate = (16, key_exchange_certified) ∷ []
turns resumes key_exchange = (20, client_first) ∷ []
turns resumes key_exchange_certified = (15, certificate_verify) ∷ (20, client_first) ∷ []
turns resumes certificate_verify = (20, client_first) ∷ []
turns resumes client_first = (20, complete_full) ∷ []
turns resumes complete_full = []
turns true client_hello = (2, resuming_hello) ∷ []
turns resumes resuming_hello = (20, server_first) ∷ []
turns resumes server_first = (20, complete_resumed) ∷ []
turns resumes complete_resumed = []
turns resumes nowhere = []

-- is a type in turn? 'Anything else is 7.'
unfoldable pub is_due : ℕ → List (ℕ × Place) → Bool
is_due kind [] = false
is_due kind ((due, place) ∷ rest) = eqb kind due || is_due kind rest

-- where it leads
unfoldable pub look : ℕ → List (ℕ × Place) → Place
look kind [] = nowhere
look kind ((due, place) ∷ rest) = pick (eqb kind due) place (look kind rest)

-- is a Finished, type 20, in turn? (What was told counts with a ServerHello alone.)
unfoldable pub finished_due : Place → Bool
finished_due p = is_due 20 (turns false p)
