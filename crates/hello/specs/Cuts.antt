-- What the readers' helpers answer: a part of a message that a vector takes, and the extensions from a place of the message on; or the place
-- of the fault.
-- Assumes nothing.
use Rattle.std.specs.Prelude.{◌≡◌, Bool, true, not, List, [], ℕ, ◌+◌, ◌≤◌, ltb, length, take, drop, Result, Ok, Err}
use Rattle.seqs.specs.Pick.{pick}
use Rattle.refusal.specs.declared.Reason.{Reason}
use Rattle.refusal.specs.declared.Reason.TheVariants as reason
use Rattle.hello.specs.Layout.{Parse, malformed, parsed, Left, from}
use Rattle.hello.specs.Extensions.{Extension, list_of}
use Rattle.hello.specs.Fields.{Hello, is_malformed, list_place, opening, closing, client_layout, server_layout, identifier_at, client_list_at, server_list_at}
use Rattle.hello.specs.Places.{behind, extensions_at, client_places, server_places}
use Rattle.hello.specs.declared.parts.Part.{Part}
use Rattle.hello.specs.declared.parts.Extensions.{Extensions}
use Rattle.hello.specs.declared.client.ClientHello.{ClientHello}
use Rattle.hello.specs.declared.server.ServerHello.{ServerHello}

-- in how many bytes a vector states its length: 'as many bytes as required to hold the vector's specified maximum length'
abbrev pub width_of : ℕ → ℕ
width_of high = pick (ltb high 256) 1 2

-- what is refused by its layout, at the place of the fault
abbrev pub Broken : {A : Type 0} → Parse A → Reason → Type 0
Broken p r = (at : ℕ) × (p ≡ malformed at) × (r ≡ reason.Malformed at)

-- the same of a field, whatever goes on behind it
abbrev pub BrokenField : {F : Type 0} → (F → Parse Hello) → Reason → Type 0
BrokenField {F} field r = (at : ℕ) × ((then : F) → field then ≡ malformed at) × (r ≡ reason.Malformed at)

-- a vector of m that goes on with `then`: its bytes begin at a known place
abbrev pub Cuts : List ℕ → ℕ → ((List ℕ → Left → Parse Hello) → Parse Hello) → Result Part Reason → Type 0
Cuts m at vector (Err r) = BrokenField vector r
Cuts m at vector (Ok p) =
    (p.at ≡ at) × (behind p ≤ length m)
    × ((then : List ℕ → Left → Parse Hello) → vector then ≡ then (take p.length (drop p.at m)) (from m (behind p)))

-- how both hellos begin, at place start: the part is the identifier
abbrev pub Opens : List ℕ → ℕ → Result Part Reason → Type 0
Opens m start (Err r) = BrokenField (opening (from m start)) r
Opens m start (Ok p) =
    (p.at ≡ identifier_at start) × (behind p ≤ length m)
    × ((then : List ℕ → List ℕ → List ℕ → Left → Parse Hello)
    → opening (from m start) then ≡ then (take 2 (drop start m)) (take 32 (drop (start + 2) m)) (take p.length (drop p.at m)) (from m (behind p)))

-- the extensions from place i of m on
unfoldable pub parsed_at : List ℕ → ℕ → Parse (List Extension)
parsed_at m i = list_of (length m) (from m i)

-- they are whole and well shaped, up to the end
unfoldable pub well_formed_at : List ℕ → ℕ → Bool
well_formed_at m i = not (is_malformed (parsed_at m i))

abbrev pub list_in : Parse (List Extension) → List Extension
list_in (malformed p) = []
list_in (parsed es) = es

unfoldable pub list_at : List ℕ → ℕ → List Extension
list_at m i = list_in (parsed_at m i)

-- the last field of a hello, from place at of m on
abbrev pub Blocks : List ℕ → ℕ → Result Extensions Reason → Type 0
Blocks m at (Err r) = BrokenField (closing (from m at)) r
Blocks m at (Ok x) =
    (b : Bool) × (list_place b at ≤ length m) × (well_formed_at m (list_place b at) ≡ true)
    × (x ≡ extensions_at b (list_place b at) (list_at m (list_place b at)))
    × ((then : Bool → List Extension → Parse Hello) → closing (from m at) then ≡ then b (list_at m (list_place b at)))

-- a hello's list of extensions, from place at of m on, is the one of its fields, and at is its place
abbrev pub SameList : List ℕ → ℕ → ℕ → Hello → Type 0
SameList m at place f = (at ≤ length m) × (well_formed_at m at ≡ true) × (list_at m at ≡ f.extensions) × (at ≡ place)

-- a message by the layout of its body, which begins at place start
abbrev pub ClientLays : List ℕ → ℕ → Result ClientHello Reason → Type 0
ClientLays m start (Err r) = Broken (client_layout (from m start)) r
ClientLays m start (Ok h) =
    (f : Hello) × (client_layout (from m start) ≡ parsed f) × (h ≡ client_places start f) × SameList m h.extensions.list.at (client_list_at start f) f

abbrev pub ServerLays : List ℕ → ℕ → Result ServerHello Reason → Type 0
ServerLays m start (Err r) = Broken (server_layout (from m start)) r
ServerLays m start (Ok h) =
    (f : Hello) × (server_layout (from m start) ≡ parsed f) × (h ≡ server_places start f) × SameList m h.extensions.list.at (server_list_at start f) f
