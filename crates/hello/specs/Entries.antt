-- The extensions of a list with the places at which they stand.
-- Assumes nothing.
use Rattle.std.specs.Prelude.{List, [], ◌∷◌, ℕ, ◌+◌, leb, eqb, length, Option, Some, None, Result, Ok, Err, ⊤}
use Rattle.seqs.specs.Pick.{pick}
use Rattle.refusal.specs.declared.Reason.{Reason}
use Rattle.refusal.specs.declared.Reason.TheVariants as reason
use Rattle.message.specs.Numbers.{pair_at}
use Rattle.hello.specs.Extensions.{Extension, twice, repeat_at}
use Rattle.hello.specs.Places.{part}
use Rattle.hello.specs.declared.parts.Part.{Part}
use Rattle.hello.specs.declared.walk.Entry.{Entry}

-- an extension of type t at place at, with n bytes of data
abbrev pub entry_of : ℕ → ℕ → ℕ → Entry
entry_of at t n = record { at = at; kind = t; «data» = part (at + 4) n }

-- 'each type 2, length 2, data': one at place at, where it lies whole within the message. 'A field cut off by the end of what holds it
-- gives that end', and 'a length that claims more than is left' its own place.
unfoldable pub entry_at : List ℕ → ℕ → Result Entry Reason
entry_at m at =
    pick (leb (at + 4) (length m))
    (pick (leb (at + 4 + pair_at m (at + 2)) (length m)) (Ok (entry_of at (pair_at m at) (pair_at m (at + 2)))) (Err (reason.Malformed (at + 2))))
    (Err (reason.Malformed (length m)))

-- those of a list that begins at place at
unfoldable pub entries_from : ℕ → List Extension → List Entry
entries_from at [] = []
entries_from at (e ∷ es) = entry_of at e.kind (length e.content) ∷ entries_from (at + 4 + length e.content) es

-- the data of the first extension of type t
unfoldable pub data_in : ℕ → ℕ → List Extension → Option Part
data_in t at [] = None
data_in t at (e ∷ es) = pick (eqb e.kind t) (Some (part (at + 4) (length e.content))) (data_in t (at + 4 + length e.content) es)

-- the earliest type that repeats one before it, at its place, or none
unfoldable pub differ_from : ℕ → List Extension → Result ⊤ Reason
differ_from at es = pick (twice es) (Err (reason.Repeated (repeat_at at es))) (Ok tt)
