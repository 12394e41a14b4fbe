-- The extensions that our side writes: the server's reply and our client's offer.
-- Assumes nothing.
use Rattle.std.specs.Prelude.{Bool, List, [], ◌∷◌, ◌++◌, ℕ}
use Rattle.seqs.specs.Pick.{pick}
use Rattle.hello.specs.Extensions.{Extension}
use Rattle.hello.specs.Written.{written_block, ri_holding, ems_extension}
use Rattle.decision.specs.Connection.{later}
use Rattle.decision.specs.declared.connection.Connection.{Connection}

-- 'RI if the flag is set (empty at first, else client's then server's verify_data), then EMS if used'
unfoldable pub reply_list : Connection → Bool → Bool → List Extension
reply_list c flag ems =
    pick flag (ri_holding (pick (later c) (c.client ++ c.server) []) ∷ []) []
    ++ pick ems (ems_extension ∷ []) []

-- 'With neither, nothing is written.'
abbrev pub block_of : List Extension → List ℕ
block_of [] = []
block_of (e ∷ es) = written_block (e ∷ es)

-- 'A 2-byte block length, then RI .., then EMS'
unfoldable pub reply_of : Connection → Bool → Bool → List ℕ
reply_of c flag ems = block_of (reply_list c flag ems)

-- 'Our client always offers RI (empty at first, later the saved client verify_data) and EMS, nothing else, no signal.'
unfoldable pub offer_of : Connection → List Extension
offer_of c = ri_holding (pick (later c) c.client []) ∷ ems_extension ∷ []

-- the same in the other order, which document 01 leaves open
unfoldable pub offer_turned : Connection → List Extension
offer_turned c = ems_extension ∷ ri_holding (pick (later c) c.client []) ∷ []
