-- Reading what was written: a list of extensions, and the block of a ServerHello, come back as they were.
-- Assumes nothing.
use mathlib.Core.Path.{◌≡◌, refl, sym, ◌∙◌, ap}
use mathlib.Core.Bool.{Bool, true}
use mathlib.Core.List.{List, [], ◌∷◌, ◌++◌}
use Prim.Native.Nat.{ℕ, suc, ◌+◌, ◌≤◌}
use native.Mathlib.Omega.{arith}
use lib.ListN.{length, drop, length-append}
use lib.Seq.{take_at, drop_at}
use borrow.Author.Tests.{le-leb, eq-eqb, ne_eqb}
use Rattle.message.specs.Numbers.{byte_at}
use Rattle.hello.specs.Layout.{Parse, parsed, Left, big, counted}
use Rattle.hello.specs.Extensions.{Extension, ri_kind, ems_kind, shaped, extension, list_of, extensions_of}
use Rattle.hello.specs.Fields.{Hello, fields, closing, server_form, read_server}
use Rattle.hello.specs.Written.{two_bytes, written_list, written_block, Shaped, behind_method}
use Rattle.hello.proofs.Vectors.{field_yes}
use Rattle.hello.proofs.Lists.{fuel, size_of_lem}
use Rattle.hello.proofs.Laid.{clean, parsed_same, server_fields, server_front, server_parts}

pub two_back : (n : ℕ) → big (two_bytes n) ≡ n
unfolding big
two_back n = omega arith

-- a length, and what it counts, in front of the rest
counted_back : {A : Type 0} (then : List ℕ → Left → Parse A) (at : ℕ) (d rest : List ℕ)
    → counted 2 (record { at = at; bytes = two_bytes (length d) ++ d ++ rest }) then ≡ then d (record { at = at + 2 + length d; bytes = rest })
unfolding counted
counted_back then at d rest =
    field_yes _ 2 (record { at = at; bytes = two_bytes (length d) ++ d ++ rest }) (omega arith)
    ∙ (rw (two_back (length d), le-leb (length d) (length (d ++ rest)) (rw length-append (omega arith)), take_at d rest (length d) refl, drop_at d rest (length d) refl))

extension_back : (then : Extension → Left → Parse (List Extension)) (at : ℕ) (e : Extension) (rest : List ℕ) → shaped e.kind e.content ≡ true
    → extension (record { at = at; bytes = two_bytes e.kind ++ two_bytes (length e.content) ++ e.content ++ rest }) then
    ≡ then e (record { at = at + 2 + 2 + length e.content; bytes = rest })
unfolding extension
extension_back then at e rest s =
    field_yes _ 2 (record { at = at; bytes = two_bytes e.kind ++ two_bytes (length e.content) ++ e.content ++ rest }) (omega arith)
    ∙ (rw (two_back e.kind) (counted_back _ (at + 2) e.content rest ∙ (rw s)))

pub list_back : (at : ℕ) (es : List Extension) → Shaped es → extensions_of (record { at = at; bytes = written_list es }) ≡ parsed es
unfolding extensions_of list_of written_list
list_back at [] h = refl
list_back at (e ∷ es) h =
    let n = suc (suc (suc (length (e.content ++ written_list es)))) in
    let next : Left = record { at = at + 2 + 2 + length e.content; bytes = written_list es } in
    let l : length (written_list es) ≤ n = omega (arith, length-append e.content (written_list es)) in
    rw (ne_eqb (suc n) 0 (λ z. omega arith))
    (extension_back _ at e (written_list es) h.0 ∙ (rw (fuel n (length (written_list es)) next l (omega arith), list_back (at + 2 + 2 + length e.content) es h.1)))

pub block_back : (then : Bool → List Extension → Parse Hello) (at : ℕ) (es : List Extension) → Shaped es → closing (record { at = at; bytes = written_block es }) then ≡ then true es
unfolding closing written_block
block_back then at es h =
    let w = written_list es in
    rw (ne_eqb (suc (suc (length w))) 0 (λ z. omega arith))
    (field_yes _ 2 (record { at = at; bytes = two_bytes (length w) ++ w }) (omega arith)
    ∙ (rw (two_back (length w), eq-eqb (length w) (length w) refl, list_back (at + 2) es h)))

-- the two known extensions have their shape
pub ri_shaped : (bytes : List ℕ) → shaped ri_kind (length bytes ∷ bytes) ≡ true
unfolding shaped byte_at
ri_shaped bytes = eq-eqb (suc (length bytes)) _ (omega arith)

pub ems_shaped : shaped ems_kind [] ≡ true
unfolding shaped
ems_shaped = refl

-- a ServerHello whose extension block was written has those extensions
pub carried : (m : List ℕ) (h : Hello) (es : List Extension) → read_server m ≡ fields h → behind_method m h ≡ written_block es → Shaped es → h.extensions ≡ es
unfolding read_server
carried m h es e w s =
    let r = clean server_form m h e in
    let g = server_front m h r.shortest r.laid in
    let k : length h.identifier ≡ g.i = ap (λ (x : Hello). length x.identifier) (server_parts m h g).is ∙ size_of_lem m 39 g.i (omega (arith, g.whole)) in
    let x : written_block es ≡ drop (39 + g.i + 3) m = sym w ∙ ap (λ (n : ℕ). drop (39 + n + 3) m) k in
    let then : Bool → List Extension → Parse Hello = λ b l. parsed (server_fields m g.i b l) in
    ap (λ (y : Hello). y.extensions) (parsed_same (sym (block_back then (39 + g.i + 3) es s) ∙ ap (λ (l : List ℕ). closing (record { at = 39 + g.i + 3; bytes = l }) then) x ∙ g.tail))
