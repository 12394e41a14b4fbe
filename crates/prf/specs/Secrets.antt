-- The master secrets and the Finished values (RFC 5246, sections 7.4.9 and 8.1; RFC 7627, section 4), over a hash H.
-- Labels are the bytes of their text in ASCII.
-- Assumes nothing.
use Rattle.std.specs.Prelude.{Bool, List, [], ◌∷◌, ℕ}
use Rattle.seqs.specs.Pick.{pick}
use Rattle.prf.specs.Hash.{HashFunction}
use Rattle.prf.specs.Prf.{prf}

-- "extended master secret", 22 bytes
abbrev pub extended_master_secret_label : List ℕ
extended_master_secret_label = 101 ∷ 120 ∷ 116 ∷ 101 ∷ 110 ∷ 100 ∷ 101 ∷ 100 ∷ 32 ∷ 109 ∷ 97 ∷ 115 ∷ 116 ∷ 101 ∷ 114 ∷ 32 ∷ 115 ∷ 101 ∷ 99 ∷ 114 ∷ 101 ∷ 116 ∷ []

-- "master secret", 13 bytes
abbrev pub master_secret_label : List ℕ
master_secret_label = 109 ∷ 97 ∷ 115 ∷ 116 ∷ 101 ∷ 114 ∷ 32 ∷ 115 ∷ 101 ∷ 99 ∷ 114 ∷ 101 ∷ 116 ∷ []

-- "client finished", 15 bytes
abbrev pub client_finished_label : List ℕ
client_finished_label = 99 ∷ 108 ∷ 105 ∷ 101 ∷ 110 ∷ 116 ∷ 32 ∷ 102 ∷ 105 ∷ 110 ∷ 105 ∷ 115 ∷ 104 ∷ 101 ∷ 100 ∷ []

-- "server finished", 15 bytes
abbrev pub server_finished_label : List ℕ
server_finished_label = 115 ∷ 101 ∷ 114 ∷ 118 ∷ 101 ∷ 114 ∷ 32 ∷ 102 ∷ 105 ∷ 110 ∷ 105 ∷ 115 ∷ 104 ∷ 101 ∷ 100 ∷ []

-- 'master_secret = PRF(pre_master_secret, "extended master secret", session_hash)[0..47]'
unfoldable pub extended_master_secret : HashFunction → List ℕ → List ℕ → List ℕ
extended_master_secret H preMaster session_hash = prf H preMaster extended_master_secret_label session_hash 48

-- 'master_secret = PRF(pre_master_secret, "master secret", ClientHello.random + ServerHello.random)[0..47]'
unfoldable pub master_secret : HashFunction → List ℕ → List ℕ → List ℕ
master_secret H preMaster randoms = prf H preMaster master_secret_label randoms 48

-- 'For Finished messages sent by the client, the string "client finished". For Finished messages sent by the server, the string "server finished".'
abbrev pub finished_label : Bool → List ℕ
finished_label server = pick server server_finished_label client_finished_label

-- 'verify_data = PRF(master_secret, finished_label, Hash(handshake_messages))[0..verify_data_length-1]', 12 bytes
unfoldable pub verify_data : HashFunction → List ℕ → Bool → List ℕ → List ℕ
verify_data H master_secret server hash = prf H master_secret (finished_label server) hash 12
