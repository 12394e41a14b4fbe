-- A list of extensions as bytes: the layout the other way round.
-- Assumes nothing.
use Rattle.std.specs.Prelude.{◌≡◌, true, List, [], ◌∷◌, ◌++◌, ℕ, ◌+◌, ◌/◌, ◌%◌, length, drop}
use Rattle.hello.specs.Extensions.{Extension, ri_kind, ems_kind, shaped}
use Rattle.hello.specs.Fields.{Hello, server_form}
use Rattle.hello.specs.Places.{behind, identifier_part}

-- a number in two bytes
abbrev pub two_bytes : ℕ → List ℕ
two_bytes n = (n / 256) ∷ (n % 256) ∷ []

unfoldable pub written_list : List Extension → List ℕ
written_list [] = []
written_list (e ∷ es) = two_bytes e.kind ++ two_bytes (length e.content) ++ e.content ++ written_list es

-- the list behind its 2-byte length
unfoldable pub written_block : List Extension → List ℕ
written_block es = two_bytes (length (written_list es)) ++ written_list es

-- renegotiation_info that holds some bytes
abbrev pub ri_holding : List ℕ → Extension
ri_holding bytes = record { kind = ri_kind; content = length bytes ∷ bytes }

-- extended_master_secret
abbrev pub ems_extension : Extension
ems_extension = record { kind = ems_kind; content = [] }

-- every extension has its shape
abbrev pub Shaped : List Extension → Type 0
Shaped [] = Unit {0}
Shaped (e ∷ es) = (shaped e.kind e.content ≡ true) × Shaped es

-- the bytes of a ServerHello m, read as h, that stand behind its compression method: its extension block, if it has one
abbrev pub behind_method : List ℕ → Hello → List ℕ
behind_method m h = drop (behind (identifier_part server_form.start h) + 3) m
