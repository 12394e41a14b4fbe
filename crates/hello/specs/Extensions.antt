-- The extensions of a hello (RFC 5246, section 7.4.1.4): renegotiation_info (RFC 5746), 'RI', and extended_master_secret
-- (RFC 7627), 'EMS', among them.
-- Assumes nothing.
use Rattle.std.specs.Prelude.{Bool, true, false, not, ◌||◌, List, [], ◌∷◌, ◌++◌, ℕ, zero, suc, ◌+◌, eqb, length, drop}
use Rattle.std.proofs.Math.Option.{Option, none, some}
use Rattle.seqs.specs.Pick.{pick}
use Rattle.message.specs.Numbers.{byte_at}
use Rattle.hello.specs.Layout.{Parse, malformed, parsed, Left, big, field, counted}

pub record Extension : Type 0 where
  -- the extension's type
  pub kind : ℕ
  pub content : List ℕ

-- 00 17
abbrev pub ems_kind : ℕ
ems_kind = 23

-- ff 01
abbrev pub ri_kind : ℕ
ri_kind = 65281

-- 'Type 00 17, extended_master_secret, has no data. Type ff 01, renegotiation_info, has one length byte and exactly that many
-- bytes. Another shape of either is 1.'
unfoldable pub shaped : ℕ → List ℕ → Bool
shaped t d =
    pick (eqb t ems_kind) (eqb (length d) 0)
    (pick (eqb t ri_kind) (eqb (length d) (1 + byte_at d 0)) true)

-- 'each type 2, length 2, data': one from the front, and what follows it. 'Data in an EMS gives its first byte', and the length byte of an
-- RI stands there too: cut off, it gives the end of data that are none, and doesn't it fit exactly, its own place.
unfoldable pub extension : Left → (Extension → Left → Parse (List Extension)) → Parse (List Extension)
extension l then =
    field 2 l
    (λ t r.
    counted 2 r
    (λ d rest.
    pick (shaped (big t) d) (then (record { kind = big t; content = d }) rest) (malformed (l.at + 4))))

-- one more, in front
abbrev pub more : Extension → Parse (List Extension) → Parse (List Extension)
more e (malformed p) = malformed p
more e (parsed es) = parsed (e ∷ es)

-- at most n extensions, and nothing after them
unfoldable pub list_of : ℕ → Left → Parse (List Extension)
list_of zero l = pick (eqb (length l.bytes) 0) (parsed []) (malformed l.at)
list_of (suc n) l = pick (eqb (length l.bytes) 0) (parsed []) (extension l (λ e rest. more e (list_of n rest)))

-- all of them: there are no more than bytes
unfoldable pub extensions_of : Left → Parse (List Extension)
extensions_of l = list_of (length l.bytes) l

-- an extension of type t is among them
unfoldable pub has : ℕ → List Extension → Bool
has t [] = false
has t (e ∷ es) = eqb e.kind t || has t es

-- 'Every pair of extension types is compared': a type stands twice
unfoldable pub twice : List Extension → Bool
twice [] = false
twice (e ∷ es) = has e.kind es || twice es

-- 'the place of the earliest type that repeats one before it', in a list from place at on; `before` stand before it. 0 where none does.
unfoldable pub repeat_from : List Extension → ℕ → List Extension → ℕ
repeat_from before at [] = 0
repeat_from before at (e ∷ es) =
    pick (has e.kind before) at (repeat_from (before ++ (e ∷ [])) (at + 4 + length e.content) es)

abbrev pub repeat_at : ℕ → List Extension → ℕ
repeat_at at es = repeat_from [] at es

-- what the first extension of type t holds
unfoldable pub content_of : ℕ → List Extension → Option (List ℕ)
content_of t [] = none
content_of t (e ∷ es) = pick (eqb e.kind t) (some e.content) (content_of t es)

-- the bytes of an RI, behind its length byte
abbrev pub bytes_of : Option (List ℕ) → Option (List ℕ)
bytes_of none = none
bytes_of (some d) = some (drop 1 d)

-- the bytes of the RI, or none where there is no RI
unfoldable pub indication_of : List Extension → Option (List ℕ)
indication_of es = bytes_of (content_of ri_kind es)

-- EMS is there
abbrev pub ems_of : List Extension → Bool
ems_of es = has ems_kind es

abbrev pub known_kind : ℕ → Bool
known_kind t = eqb t ems_kind || eqb t ri_kind

-- a type other than these two is there
unfoldable pub others_of : List Extension → Bool
others_of [] = false
others_of (e ∷ es) = not (known_kind e.kind) || others_of es
