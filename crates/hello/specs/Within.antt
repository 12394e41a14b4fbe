-- A fault's place is one of the message: 'counted from 0', it is at most the message's length, and so at most 16,388. Proved in
-- proofs/Within.antt.
-- Assumes nothing.
use Rattle.std.specs.Prelude.{◌≡◌, List, ℕ, ◌≤◌, length}
use Rattle.hello.specs.Fields.{Reading, fault, read_client, read_server}

abbrev pub PlaceWithin : (List ℕ → Reading) → Type 0
PlaceWithin read = (m : List ℕ) (n p : ℕ) → read m ≡ fault n p → (p ≤ length m) × (p ≤ 16388)

abbrev pub ClientPlaceWithin : Type 0
ClientPlaceWithin = PlaceWithin read_client

abbrev pub ServerPlaceWithin : Type 0
ServerPlaceWithin = PlaceWithin read_server
