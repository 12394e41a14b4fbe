-- The extension at a place of a message, for a caller who goes through the list of a hello that was read.
-- Assumes nothing.
use Rattle.std.specs.Prelude.{◌≡◌, Bool, List, [], ◌∷◌, ℕ, ◌+◌, leb, length}
use Rattle.seqs.specs.Pick.{pick}
use Rattle.message.specs.Numbers.{pair_at}
use Rattle.hello.specs.Extensions.{Extension}
use Rattle.hello.specs.Places.{part, Points}
use Rattle.hello.specs.Learnt.{ExtensionsLearnt}
use Rattle.hello.specs.declared.parts.Extensions.{Extensions}
use Rattle.hello.specs.declared.next.Next.{Next}

abbrev pub no_next : Next
no_next = record { found = 0; kind = 0; «data» = part 0 0; next = 0 }

-- an extension of n bytes of data at place at
abbrev pub next_of : List ℕ → ℕ → ℕ → Next
next_of m at n = record { found = 1; kind = pair_at m at; «data» = part (at + 4) n; next = at + 4 + n }

-- 'each type 2, length 2, data': one at place at, where it lies whole within the message
unfoldable pub next_at : List ℕ → ℕ → Next
next_at m at = pick (leb (at + 4 + pair_at m (at + 2)) (length m)) (next_of m at (pair_at m (at + 2))) no_next

-- asked from place at on, each time at the place that the last answer gave, the call hands out es: each one's type and its data, and
-- then none
abbrev pub HandsOut : List ℕ → ℕ → List Extension → Type 0
HandsOut m at [] = next_at m at ≡ no_next
HandsOut m at (e ∷ es) =
    ((next_at m at).found ≡ 1) × ((next_at m at).kind ≡ e.kind) × Points m (next_at m at).«data» e.content × HandsOut m (next_at m at).next es

-- Of a hello that was read (`ClientLearnt`, `ServerLearnt`) it hands out the very list, from the list's place on. Proved as `handed` in
-- proofs/Handed.antt.
abbrev pub ListHandedOut : Type 0
ListHandedOut = (m : List ℕ) (x : Extensions) (b : Bool) (es : List Extension) → ExtensionsLearnt m x b es → HandsOut m x.list.at es

-- and no other one: whatever was handed out from a place on is one list. Proved as `handed_once`.
abbrev pub HandedOnce : Type 0
HandedOnce = (m : List ℕ) (at : ℕ) (es es' : List Extension) → HandsOut m at es → HandsOut m at es' → es ≡ es'
