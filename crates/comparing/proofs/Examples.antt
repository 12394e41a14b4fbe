-- What is printed of small cases, computed from the definition.
-- Assumes nothing.
use mathlib.Core.Path.{◌≡◌, refl, ◌∙◌, ap}
use mathlib.Core.Bool.{false}
use mathlib.Core.List.{List, [], ◌∷◌, ◌++◌, append-nil}
use mathlib.Core.Logic.{inl, inr}
use Prim.Native.Nat.{ℕ}
use native.Mathlib.Omega.{arith}
use lib.ListN.{replicate}
use Rattle.refusal.specs.First.{first_fault}
use Rattle.message.specs.Numbers.{byte_at, pair_at, triple_at}
use Rattle.message.specs.Frame.{kind_of, body_of, overlong, cut_off, misstated, other_kind}
use Rattle.octets.specs.Same.{same}
use Rattle.hello.specs.Layout.{big, field, counted, vector}
use Rattle.hello.specs.Extensions.{Extension, shaped, extension as extensionIn, list_of, extensions_of, has, twice}
use Rattle.hello.specs.Places.{part}
use Rattle.hello.specs.Fields.{opening, closing, client_layout, server_layout, hello_fault, read_client, read_server}
use Rattle.cases.specs.Contents.{count_of, lengths_in, lengths_of, contents_size, parts_of, bodies_of, total, good_case}
use Rattle.cases.specs.Digits.{ascii, digits, decimal}
use Rattle.comparing.specs.Differences.{byte, extension, Difference, difference, unless, common, field_differences, extension_differences, read_differences, hello_differences, message_differences, alone, differences_from, differences}
use Rattle.comparing.specs.Comparison.{line, line_of, text, first_refused, second_refused, comparison}
use Rattle.comparing.specs.Steps.{matched}
use Rattle.comparing.specs.Steps.{Least}
use Rattle.comparing.proofs.Types.{lowest_none, lowest_stays, lowest_falls, types_text, types_end}

equal : comparison (1 ∷ 0 ∷ 1 ∷ 7 ∷ []) (1 ∷ 0 ∷ 1 ∷ 7 ∷ []) ≡ []
unfolding byte_at pair_at same count_of lengths_in lengths_of contents_size parts_of bodies_of total good_case message_differences alone differences_from differences text comparison
equal = refl

first_byte : comparison (1 ∷ 0 ∷ 1 ∷ 7 ∷ []) (1 ∷ 0 ∷ 1 ∷ 8 ∷ []) ≡ ascii "1 byte 0\n"
unfolding byte_at pair_at same field opening client_layout server_layout read_client read_server count_of lengths_in lengths_of contents_size parts_of bodies_of total good_case ascii digits decimal common read_differences hello_differences message_differences alone differences_from differences line line_of text comparison
first_byte = refl

-- a body that begins the other: 'the shorter one's length where it begins the longer'
begins : comparison (1 ∷ 0 ∷ 1 ∷ 7 ∷ []) (1 ∷ 0 ∷ 2 ∷ 7 ∷ 8 ∷ []) ≡ ascii "1 byte 1\n"
unfolding byte_at pair_at same field opening client_layout server_layout read_client read_server count_of lengths_in lengths_of contents_size parts_of bodies_of total good_case ascii digits decimal common read_differences hello_differences message_differences alone differences_from differences line line_of text comparison
begins = refl

-- 'messages in one only'
in_first : comparison (2 ∷ 0 ∷ 1 ∷ 0 ∷ 1 ∷ 7 ∷ 7 ∷ []) (1 ∷ 0 ∷ 1 ∷ 7 ∷ []) ≡ ascii "2 first\n"
unfolding byte_at pair_at same count_of lengths_in lengths_of contents_size parts_of bodies_of total good_case ascii digits decimal message_differences alone differences_from differences line line_of text comparison
in_first = refl

in_second : comparison (2 ∷ 0 ∷ 1 ∷ 0 ∷ 0 ∷ 7 ∷ []) (4 ∷ 0 ∷ 1 ∷ 0 ∷ 0 ∷ 0 ∷ 0 ∷ 0 ∷ 0 ∷ 8 ∷ []) ≡ ascii "1 byte 0\n3 second\n4 second\n"
unfolding byte_at pair_at same field opening client_layout server_layout read_client read_server count_of lengths_in lengths_of contents_size parts_of bodies_of total good_case ascii digits decimal common read_differences hello_differences message_differences alone differences_from differences line line_of text comparison
in_second = refl

-- no count byte; one byte too many; both bad, though their bytes are equal
first_bad : comparison [] (0 ∷ []) ≡ ascii "first refused\n"
unfolding byte_at count_of contents_size good_case first_refused comparison
first_bad = refl

second_bad : comparison (0 ∷ []) (0 ∷ 0 ∷ []) ≡ ascii "second refused\n"
unfolding byte_at count_of lengths_in lengths_of contents_size total good_case second_refused comparison
second_bad = refl

both_bad : comparison (1 ∷ []) (1 ∷ []) ≡ ascii "first refused\n"
unfolding byte_at count_of contents_size good_case first_refused comparison
both_bad = refl

-- a case of one message, of n bytes
abbrev one_of : ℕ → List ℕ → List ℕ
one_of n m = 1 ∷ 0 ∷ n ∷ m

-- a ServerHello with a body of n bytes, an identifier of one byte, and what stands behind the method; a ClientHello with an identifier of
-- one byte, one suite and one method, and one byte 32 times for its random
abbrev server_hello : ℕ → ℕ → List ℕ → List ℕ
server_hello n identifier rest = 2 ∷ 0 ∷ 0 ∷ n ∷ 3 ∷ 3 ∷ replicate 32 0 ++ (1 ∷ identifier ∷ 0 ∷ 47 ∷ 0 ∷ []) ++ rest

abbrev client_hello : ℕ → ℕ → ℕ → ℕ → ℕ → List ℕ
client_hello version random identifier suite method =
    1 ∷ 0 ∷ 0 ∷ 42 ∷ 3 ∷ version ∷ replicate 32 random ++ (1 ∷ identifier ∷ 0 ∷ 2 ∷ 0 ∷ suite ∷ 1 ∷ method ∷ [])

-- no extensions: no difference in them
abbrev none : Least
none = record { kind = 65536; «data» = part 0 0 }

no_extensions : (i : ℕ) → extension_differences i [] [] ≡ []
unfolding extension_differences
no_extensions i =
    types_end [] [] [] [] 0 none none (lowest_none [] 0) (lowest_none [] 0) i 65536 (omega arith) refl (omega arith) (omega arith)

-- two ServerHellos of different identifiers
identifiers : comparison (one_of 43 (server_hello 39 7 [])) (one_of 43 (server_hello 39 8 [])) ≡ ascii "1 byte 39\n1 field identifier\n"
unfolding first_fault byte_at pair_at triple_at kind_of body_of overlong cut_off misstated other_kind same big field counted vector twice opening closing client_layout server_layout hello_fault read_client read_server count_of lengths_in lengths_of contents_size parts_of bodies_of total good_case ascii digits decimal unless common field_differences read_differences hello_differences message_differences alone differences_from differences line line_of text comparison
identifiers = rw (no_extensions 1)

-- two ClientHellos that differ in every field
all_fields : comparison (one_of 46 (client_hello 3 0 7 47 0)) (one_of 46 (client_hello 4 1 8 48 1))
    ≡ ascii "1 byte 5\n1 field version\n1 field random\n1 field identifier\n1 field suites\n1 field methods\n"
unfolding first_fault byte_at pair_at triple_at kind_of body_of overlong cut_off misstated other_kind same big field counted vector twice opening closing client_layout server_layout hello_fault read_client read_server count_of lengths_in lengths_of contents_size parts_of bodies_of total good_case ascii digits decimal unless common field_differences read_differences hello_differences message_differences alone differences_from differences line line_of text comparison
all_fields = rw (no_extensions 1)

-- no 'two readable hellos': a version is too low
unreadable : comparison (one_of 46 (client_hello 2 0 7 47 0)) (one_of 46 (client_hello 3 1 8 48 1)) ≡ ascii "1 byte 5\n"
unfolding first_fault byte_at pair_at triple_at kind_of body_of overlong cut_off misstated other_kind same big field counted vector twice opening closing client_layout server_layout hello_fault read_client read_server count_of lengths_in lengths_of contents_size parts_of bodies_of total good_case ascii digits decimal unless common field_differences read_differences hello_differences message_differences alone differences_from differences line line_of text comparison
unreadable = refl

-- not 'of one type'
two_types : comparison (one_of 46 (client_hello 3 0 7 47 0)) (one_of 43 (server_hello 39 8 [])) ≡ ascii "1 byte 0\n"
unfolding first_fault byte_at pair_at triple_at kind_of body_of overlong cut_off misstated other_kind same big field counted vector twice opening closing client_layout server_layout hello_fault read_client read_server count_of lengths_in lengths_of contents_size parts_of bodies_of total good_case ascii digits decimal unless common field_differences read_differences hello_differences message_differences alone differences_from differences line line_of text comparison
two_types = refl

-- no block of extensions against an empty one
empty_block : comparison (one_of 43 (server_hello 39 7 [])) (one_of 45 (server_hello 41 7 (0 ∷ 0 ∷ []))) ≡ ascii "1 byte 3\n"
unfolding first_fault byte_at pair_at triple_at kind_of body_of overlong cut_off misstated other_kind same big field counted vector list_of extensions_of twice opening closing client_layout server_layout hello_fault read_client read_server count_of lengths_in lengths_of contents_size parts_of bodies_of total good_case ascii digits decimal unless common field_differences read_differences hello_differences message_differences alone differences_from differences line line_of text comparison
empty_block = rw (no_extensions 1)

-- an EMS in the second only
abbrev ems : Extension
ems = record { kind = 23; content = [] }

ems_text : text (extension_differences 1 [] (ems ∷ [])) ≡ ascii "1 extension 23\n"
unfolding matched extension_differences unless text line_of line ascii digits decimal
ems_text =
    let here : Least = record { kind = 23; «data» = part 0 0 } in
    let l = lowest_falls [] [] 0 none ems (lowest_none [] 0) here refl refl (omega arith) (omega arith) (omega arith) in
    let more = types_text [] [] [] (ems ∷ []) 0 none here (lowest_none [] 0) l 1 23 false refl (omega arith) (omega arith) (omega arith) (inr refl) in
    let stays = lowest_stays [] [] 24 none ems (lowest_none [] 24) (inl (omega arith)) in
    let done = types_end [] [] [] (ems ∷ []) 24 none none (lowest_none [] 24) stays 1 65536 (omega arith) refl (omega arith) (omega arith) in
    more ∙ ap (λ (ds : List Difference). text (unless false (difference 1 (extension 23))) ++ text ds) done

in_second_only : comparison (one_of 43 (server_hello 39 7 [])) (one_of 49 (server_hello 45 7 (0 ∷ 4 ∷ 0 ∷ 23 ∷ 0 ∷ 0 ∷ [])))
    ≡ ascii "1 byte 3\n1 extension 23\n"
unfolding first_fault byte_at pair_at triple_at kind_of body_of overlong cut_off misstated other_kind same big field counted vector shaped extensionIn list_of extensions_of has twice opening closing client_layout server_layout hello_fault read_client read_server count_of lengths_in lengths_of contents_size parts_of bodies_of total good_case ascii digits decimal unless common field_differences read_differences hello_differences message_differences alone differences_from differences line line_of text comparison
in_second_only =
    let ds = extension_differences 1 [] (ems ∷ []) in
    let d = difference 1 (byte 3) in
    ap (λ (es : List Difference). text (d ∷ es)) (append-nil ds) ∙ ap (λ (s : List ℕ). line_of d ++ s) ems_text
