-- Order 9, 'Tell us where the message broke': the place of every fault, as one table under one statement about the definitions that the
-- contracts cite, beside document 01's cases. Each row is a message with the number and the place that are answered to it. It is proved by
-- computation in proofs/Places.antt.
-- Assumes nothing.
use Rattle.std.specs.Prelude.{◌≡◌, List, [], ◌∷◌, ◌++◌, ℕ, replicate}
use Rattle.std.proofs.Math.Option.{none}
use Rattle.refusal.specs.Table.{refusal_at}
use Rattle.hello.specs.Fields.{fault, read_client, read_server}
use Rattle.decision.specs.Server.{server_decision}
use Rattle.decision.specs.Client.{client_decision}
use Rattle.transcript.specs.Choice.Algorithm.{sha_256}
use Rattle.message_log.specs.Told.{full}
use Rattle.message_log.specs.History.History.{fresh}
use Rattle.message_log.specs.Standing.Standing.{whole}
use Rattle.message_log.specs.Calls.{accept_number, broken_at}
use Rattle.message_log.specs.Finish.{finish_number}
use Rattle.gateway.specs.Cases.{message, connection, legacy, room}

-- ---- the calls: a ClientHello is read, and the server decides on it; a ServerHello is read, and the client decides on it; the log
-- accepts a message, or checks it as a Finished

abbrev pub ClientRow : List ℕ → ℕ → ℕ → Type 0
ClientRow m n p = (read_client m ≡ fault n p) × ((server_decision 1 (read_client m) none (connection 0 0) (legacy 1) room).refusal ≡ refusal_at n p)

abbrev pub ServerRow : List ℕ → ℕ → ℕ → Type 0
ServerRow m n p = (read_server m ≡ fault n p) × ((client_decision (read_server m) [] none (connection 0 0) (legacy 1)).refusal ≡ refusal_at n p)

abbrev pub LogRow : List ℕ → ℕ → ℕ → Type 0
LogRow m n p =
    (refusal_at (accept_number (whole fresh) m (full sha_256)) (broken_at m) ≡ refusal_at n p)
    × (refusal_at (finish_number (whole fresh) (replicate 48 0) m) (broken_at m) ≡ refusal_at n p)

-- ---- the messages

-- version 03 03, a random, and the rest: it begins at place 38
abbrev pub begun : List ℕ → List ℕ
begun rest = (0x03 ∷ 0x03 ∷ []) ++ replicate 32 0 ++ rest

abbrev pub client : List ℕ → List ℕ
client rest = message 1 (begun rest)

abbrev pub server : List ℕ → List ℕ
server rest = message 2 (begun rest)

-- with the identifier 07, the suite 00 2f and the method 00: the block of a ClientHello begins at place 46, its first extension at 48; that
-- of a ServerHello at 43 and 45
abbrev pub client_with : List ℕ → List ℕ
client_with block = client ((0x01 ∷ 0x07 ∷ 0x00 ∷ 0x02 ∷ 0x00 ∷ 0x2f ∷ 0x01 ∷ 0x00 ∷ []) ++ block)

abbrev pub server_with : List ℕ → List ℕ
server_with block = server ((0x01 ∷ 0x07 ∷ 0x00 ∷ 0x2f ∷ 0x00 ∷ []) ++ block)

-- an extension of the type 00 t, and no data
abbrev pub bare : ℕ → List ℕ
bare t = 0x00 ∷ t ∷ 0x00 ∷ 0x00 ∷ []

-- four of them
abbrev pub four : ℕ → ℕ → ℕ → ℕ → List ℕ
four a b c d = (0x00 ∷ 0x10 ∷ []) ++ bare a ++ bare b ++ bare c ++ bare d

-- ---- the table

-- 'A field cut off by the end of what holds it gives that end.'
pub record CutOff : Type 0 where
  pub nothing : ClientRow [] 1 0
  pub no_length : ClientRow (0x01 ∷ []) 1 1
  pub length : ClientRow (0x01 ∷ 0x00 ∷ 0x00 ∷ []) 1 3
  pub version : ClientRow (message 1 (0x03 ∷ [])) 1 5
  pub random : ClientRow (message 1 ((0x03 ∷ 0x03 ∷ []) ++ replicate 31 0)) 1 37
  pub identifier : ClientRow (client []) 1 38
  pub suites : ClientRow (client (0x01 ∷ 0x07 ∷ 0x00 ∷ [])) 1 41
  pub methods : ClientRow (client (0x01 ∷ 0x07 ∷ 0x00 ∷ 0x02 ∷ 0x00 ∷ 0x2f ∷ [])) 1 44
  pub block : ClientRow (client_with (0x00 ∷ [])) 1 47
  pub type : ClientRow (client_with (0x00 ∷ 0x01 ∷ 0x00 ∷ [])) 1 49
  pub data_length : ClientRow (client_with (0x00 ∷ 0x03 ∷ 0x00 ∷ 0x17 ∷ 0x00 ∷ [])) 1 51
  pub server_nothing : ServerRow [] 1 0
  pub server_version : ServerRow (message 2 (0x03 ∷ [])) 1 5
  pub server_identifier : ServerRow (server []) 1 38
  pub suite : ServerRow (server (0x01 ∷ 0x07 ∷ 0x00 ∷ [])) 1 41
  pub method : ServerRow (server (0x01 ∷ 0x07 ∷ 0x00 ∷ 0x2f ∷ [])) 1 42
  pub server_block : ServerRow (server_with (0x00 ∷ [])) 1 44
  pub server_type : ServerRow (server_with (0x00 ∷ 0x01 ∷ 0x00 ∷ [])) 1 46

-- 'A field out of its bounds, a length that claims more than is left, or one that must fit exactly and doesn't, gives the field's own
-- place.'
pub record OwnPlace : Type 0 where
  -- another type than asked, however short the message is and whatever length it states
  pub kind : ClientRow (server []) 1 0
  pub kind_short : ClientRow (0x02 ∷ []) 1 0
  pub kind_length : ClientRow (0x02 ∷ 0x00 ∷ 0x00 ∷ 0x07 ∷ []) 1 0
  pub length : ClientRow (0x01 ∷ 0x00 ∷ 0x00 ∷ 0x01 ∷ []) 1 1
  pub length_less : ClientRow (0x01 ∷ 0x00 ∷ 0x00 ∷ 0x00 ∷ 0x03 ∷ []) 1 1
  pub identifier_long : ClientRow (client (33 ∷ replicate 33 0)) 1 38
  pub identifier_more : ClientRow (client (0x02 ∷ 0x07 ∷ [])) 1 38
  pub suites_none : ClientRow (client (0x01 ∷ 0x07 ∷ 0x00 ∷ 0x00 ∷ 0x01 ∷ 0x00 ∷ [])) 1 40
  pub suites_odd : ClientRow (client (0x01 ∷ 0x07 ∷ 0x00 ∷ 0x03 ∷ 0x00 ∷ 0x2f ∷ 0x00 ∷ 0x01 ∷ 0x00 ∷ [])) 1 40
  pub suites_more : ClientRow (client (0x01 ∷ 0x07 ∷ 0x00 ∷ 0x04 ∷ 0x00 ∷ 0x2f ∷ [])) 1 40
  pub methods_none : ClientRow (client (0x01 ∷ 0x07 ∷ 0x00 ∷ 0x02 ∷ 0x00 ∷ 0x2f ∷ 0x00 ∷ [])) 1 44
  pub methods_more : ClientRow (client (0x01 ∷ 0x07 ∷ 0x00 ∷ 0x02 ∷ 0x00 ∷ 0x2f ∷ 0x02 ∷ 0x00 ∷ [])) 1 44
  pub block_more : ClientRow (client_with (0x00 ∷ 0x01 ∷ [])) 1 46
  pub block_less : ClientRow (client_with (0x00 ∷ 0x00 ∷ 0x00 ∷ [])) 1 46
  pub data_more : ClientRow (client_with ((0x00 ∷ 0x04 ∷ []) ++ (0x00 ∷ 0x0a ∷ 0x00 ∷ 0x01 ∷ []))) 1 50
  pub server_kind : ServerRow (client []) 1 0
  pub server_length : ServerRow (0x02 ∷ 0x00 ∷ 0x00 ∷ 0x01 ∷ []) 1 1
  pub server_identifier : ServerRow (server (33 ∷ replicate 33 0)) 1 38
  pub server_block : ServerRow (server_with (0x00 ∷ 0x01 ∷ [])) 1 43
  pub server_data : ServerRow (server_with ((0x00 ∷ 0x04 ∷ []) ++ (0x00 ∷ 0x0a ∷ 0x00 ∷ 0x01 ∷ []))) 1 47

-- 'Data in an EMS gives its first byte.' So does an RI without or with another length byte. Behind another extension: at place 52, data at 56.
pub record Shapes : Type 0 where
  pub ems : ClientRow (client_with ((0x00 ∷ 0x05 ∷ []) ++ (0x00 ∷ 0x17 ∷ 0x00 ∷ 0x01 ∷ 0x00 ∷ []))) 1 52
  pub ems_second : ClientRow (client_with ((0x00 ∷ 0x09 ∷ []) ++ bare 0x0a ++ (0x00 ∷ 0x17 ∷ 0x00 ∷ 0x01 ∷ 0x00 ∷ []))) 1 56
  -- a length that claims more than is left is judged before the shape
  pub ems_more : ClientRow (client_with ((0x00 ∷ 0x04 ∷ []) ++ (0x00 ∷ 0x17 ∷ 0x00 ∷ 0x01 ∷ []))) 1 50
  pub ri_empty : ClientRow (client_with ((0x00 ∷ 0x04 ∷ []) ++ (0xff ∷ 0x01 ∷ 0x00 ∷ 0x00 ∷ []))) 1 52
  pub ri_more : ClientRow (client_with ((0x00 ∷ 0x05 ∷ []) ++ (0xff ∷ 0x01 ∷ 0x00 ∷ 0x01 ∷ 0x01 ∷ []))) 1 52
  pub ri_less : ClientRow (client_with ((0x00 ∷ 0x06 ∷ []) ++ (0xff ∷ 0x01 ∷ 0x00 ∷ 0x02 ∷ 0x00 ∷ 0x00 ∷ []))) 1 52
  pub server_ems : ServerRow (server_with ((0x00 ∷ 0x05 ∷ []) ++ (0x00 ∷ 0x17 ∷ 0x00 ∷ 0x01 ∷ 0x00 ∷ []))) 1 49
  pub server_ri : ServerRow (server_with ((0x00 ∷ 0x04 ∷ []) ++ (0xff ∷ 0x01 ∷ 0x00 ∷ 0x00 ∷ []))) 1 49

-- 'Refusal 2 gives the place of the earliest type that repeats one before it': extensions at places 48, 52, 56 and 60
pub record Repeats : Type 0 where
  pub abba : ClientRow (client_with (four 0x0a 0x0b 0x0b 0x0a)) 2 56
  pub abab : ClientRow (client_with (four 0x0a 0x0b 0x0a 0x0b)) 2 56
  pub aabb : ClientRow (client_with (four 0x0a 0x0a 0x0b 0x0b)) 2 52
  pub abca : ClientRow (client_with (four 0x0a 0x0b 0x0c 0x0a)) 2 60
  pub server_abba : ServerRow (server_with (four 0x0a 0x0b 0x0b 0x0a)) 2 53
  -- the number first: a fault behind a repeat is 1, at its own place
  pub malformed_behind : ClientRow (client_with ((0x00 ∷ 0x0c ∷ []) ++ bare 0x0a ++ bare 0x0a ++ (0x00 ∷ 0x0b ∷ 0x00 ∷ 0x01 ∷ []))) 1 58

-- The log judges the header alone, whatever the type. 'A Finished or type 0 body of wrong length gives 1, the place of the length.'
pub record Logged : Type 0 where
  pub nothing : LogRow [] 1 0
  pub header : LogRow (0x02 ∷ 0x00 ∷ 0x00 ∷ []) 1 3
  pub length : LogRow (0x0b ∷ 0x00 ∷ 0x00 ∷ 0x01 ∷ []) 1 1
  pub request : LogRow (message 0 (0x00 ∷ [])) 1 1
  pub finished_short : LogRow (message 20 (replicate 11 0)) 1 1
  pub finished_long : LogRow (message 20 (replicate 13 0)) 1 1

-- 0 beside every other number: version 03 02; a Finished that is not due
pub record NoPlace : Type 0 where
  pub version : ClientRow (message 1 ((0x03 ∷ 0x02 ∷ []) ++ replicate 32 0 ++ (0x00 ∷ 0x00 ∷ 0x02 ∷ 0x00 ∷ 0x2f ∷ 0x01 ∷ 0x00 ∷ []))) 3 0
  pub server_version : ServerRow (message 2 ((0x03 ∷ 0x04 ∷ []) ++ replicate 32 0 ++ (0x00 ∷ 0x00 ∷ 0x2f ∷ 0x00 ∷ []))) 3 0
  pub turn : LogRow (message 20 (replicate 12 0)) 7 0

pub record Places : Type 0 where
  pub cut_off_lem : CutOff
  pub own_place : OwnPlace
  pub shapes : Shapes
  pub repeats : Repeats
  pub logged : Logged
  pub no_place : NoPlace
