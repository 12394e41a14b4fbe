-- Writing what was read, of a whole message: its bytes, and the number that is answered.
-- Assumes nothing.
use mathlib.Core.Path.{◌≡◌, refl, sym, ◌∙◌, ap}
use mathlib.Core.Bool.{Bool, true, false}
use mathlib.Core.List.{List, [], ◌∷◌, ◌++◌}
use Prim.Native.Nat.{ℕ, ◌+◌, ◌/◌, ◌%◌}
use native.Mathlib.Omega.{arith}
use lib.Dec.{eqb, ltb}
use lib.ListN.{length, drop}
use lib.Seq.{get_or-drop}
use borrow.Author.Tests.{eqb-true, not-false, eq-eqb, le-ltb}
use Rattle.seqs.specs.Pick.{pick}
use Rattle.seqs.specs.Bytes.{Bytes}
use Rattle.seqs.specs.Cases.{or_right}
use Rattle.refusal.specs.First.{first_of}
use Rattle.message.specs.Numbers.{byte_at, pair_at, triple_at}
use Rattle.message.specs.Frame.{cut_off, misstated, kind_of, body_of}
use Rattle.message.proofs.Frames.{stated_long}
use Rattle.hello.specs.Layout.{Parse, parsed, Left, from, big}
use Rattle.hello.specs.Fields.{Hello, Form, client_form, server_form, fields, client_layout, server_layout, read_as, read_client, read_server}
use Rattle.hello.specs.Learnt.{ClientBounds, ServerBounds}
use Rattle.hello.specs.Written.{two_bytes}
use Rattle.hello.proofs.Inversions.{pick_parsed}
use Rattle.hello.proofs.Laid.{clean, parsed_same}
use Rattle.hello.proofs.Learnt.{client_bounds, server_bounds}
use Rattle.writing.specs.Lists.{misshapen}
use Rattle.writing.specs.Messages.{message_of, vector8, vector16, client_bytes, server_bytes}
use Rattle.writing.specs.Promise.{opening_outside, client_outside, server_outside, unblocked, write_number, client_number, server_number}
use Rattle.writing.proofs.Back.{client_body, server_body, client_bytes_lem, server_bytes_lem}
use Rattle.writing.proofs.Forth.{bytes_right, field_forth, vector_forth, narrow, wide, opening_forth, closing_forth}

-- bytes that are written of the fields that were read from them
pub record Rewritten (bytes : Hello → List ℕ) (l : List ℕ) (f : Hello) : Type 0 where
  pub is : bytes f ≡ l
  pub blocked : unblocked f ≡ false
  pub shapes : misshapen f.extensions ≡ false

-- the bodies
abbrev Relaid : (Left → Parse Hello) → (Hello → List ℕ) → Type 0
Relaid layout body = (l : Left) (f : Hello) → Bytes l.bytes → layout l ≡ parsed f → Rewritten body l.bytes f

client_body_lem : Relaid client_layout client_body
unfolding client_layout unblocked
client_body_lem l f h e =
    let o = opening_forth f _ l h e in
    let s = vector_forth f _ 2 2 65534 o.rest o.on in
    let t = vector_forth f _ 1 1 255 s.rest (pick_parsed (eqb (length s.part % 2) 0) _ _ f s.on).1 in
    let front : List ℕ = two_bytes (big o.version) ++ o.random ++ vector8 o.identifier in
    let s-bytes : Bytes o.rest.bytes = bytes_right front o.rest.bytes (rw o.is at h) in
    let s-is : o.rest.bytes ≡ vector16 s.part ++ s.rest.bytes = wide f _ o.rest 2 s refl s-bytes in
    let t-bytes : Bytes s.rest.bytes = bytes_right (vector16 s.part) s.rest.bytes (rw s-is at s-bytes) in
    let t-is : s.rest.bytes ≡ vector8 t.part ++ t.rest.bytes = narrow f _ s.rest 1 t refl in
    let c = closing_forth f _ t.rest (bytes_right (vector8 t.part) t.rest.bytes (rw t-is at t-bytes)) t.on in
    let g = parsed_same c.on in
    record {
      is =
          ap client_body g
          ∙ sym
          (o.is
          ∙ ap (λ (r : List ℕ). front ++ r)
          (s-is ∙ ap (λ (r : List ℕ). vector16 s.part ++ r) (t-is ∙ ap (λ (r : List ℕ). vector8 t.part ++ r) c.is)));
      blocked = rw g c.blocked;
      shapes = rw g c.shapes;
    }

server_body_lem : Relaid server_layout server_body
unfolding server_layout unblocked
server_body_lem l f h e =
    let o = opening_forth f _ l h e in
    let s = field_forth f _ o.rest 2 o.on in
    let t = field_forth f _ s.rest 1 s.on in
    let front : List ℕ = two_bytes (big o.version) ++ o.random ++ vector8 o.identifier in
    let s-bytes : Bytes o.rest.bytes = bytes_right front o.rest.bytes (rw o.is at h) in
    let t-bytes : Bytes s.rest.bytes = bytes_right s.part s.rest.bytes (rw s.is at s-bytes) in
    let c = closing_forth f _ t.rest (bytes_right t.part t.rest.bytes (rw t.is at t-bytes)) t.on in
    let g = parsed_same c.on in
    record {
      is =
          ap server_body g
          ∙ sym
          (o.is
          ∙ ap (λ (r : List ℕ). front ++ r)
          (s.is ∙ ap (λ (r : List ℕ). s.part ++ r) (t.is ∙ ap (λ (r : List ℕ). t.part ++ r) c.is)));
      blocked = rw g c.blocked;
      shapes = rw g c.shapes;
    }

-- the header, where the length that it states is the body's
header_forth : (kind : ℕ) (m : List ℕ) → Bytes m → misstated m ≡ false → kind_of m ≡ kind → message_of kind (drop 4 m) ≡ m
unfolding misstated cut_off kind_of body_of triple_at pair_at byte_at
header_forth kind [] h e k = absurd (omega (arith, stated_long [] e))
header_forth kind (a ∷ []) h e k = absurd (omega (arith, stated_long (a ∷ []) e))
header_forth kind (a ∷ b ∷ []) h e k = absurd (omega (arith, stated_long (a ∷ b ∷ []) e))
header_forth kind (a ∷ b ∷ c ∷ []) h e k = absurd (omega (arith, stated_long (a ∷ b ∷ c ∷ []) e))
header_forth kind (a ∷ b ∷ c ∷ d ∷ body) h e k =
    let m = a ∷ b ∷ c ∷ d ∷ body in
    let s : triple_at m 1 ≡ length body = eqb-true _ _ (not-false _ (or_right (ltb (length m) 4) _ e)) in
    let x : length body / 65536 ≡ b = omega (arith, h 2, h 3) in
    let y : length body % 65536 / 256 ≡ c = omega (arith, h 2, h 3) in
    let z : length body % 65536 % 256 ≡ d = omega (arith, h 2, h 3) in
    rw (← k, x, y, z)

-- of either hello, by what is known of its body
module _ (k : Form) (begins : k.start ≡ 4) (outside : Hello → Bool) (bytes body : Hello → List ℕ)
    (whole : (f : Hello) → bytes f ≡ message_of k.kind (body f)) (laid : Relaid k.layout body)
    (m : List ℕ) (f : Hello) (h : Bytes m) (e : read_as k m ≡ fields f) where
  message_forth : Rewritten bytes m f
  message_forth =
      let c = clean k m f e in
      let b = laid (from m 4) f (λ i. rw (get_or-drop 4 m i 0) (h (4 + i))) (rw begins at c.laid) in
      record { is = whole f ∙ ap (message_of k.kind) b.is ∙ header_forth k.kind m h c.stated c.kind; blocked = b.blocked; shapes = b.shapes }

  number_forth : outside f ≡ false → (out : List ℕ) → write_number outside bytes k.wrong true f out ≡ pick (ltb (length out) (length m)) 10 0
  unfolding write_number first_of
  number_forth o out =
      let c = clean k m f e in
      let r = message_forth in
      rw (o, r.is, r.blocked, c.short, r.shapes, c.differ, c.version)

-- the bounds of what was read are the writers'
client_inside : (m : List ℕ) (f : Hello) → ClientBounds m f → client_outside f ≡ false
unfolding client_outside opening_outside
client_inside m f b =
    rw (eq-eqb _ 32 b.random, le-ltb 32 _ b.identifier)
    (rw (le-ltb _ 2 b.suites_from, le-ltb 65534 _ b.suites_to, eq-eqb _ 0 b.suites_even, le-ltb _ 1 b.methods_from, le-ltb 255 _ b.methods_to))

server_inside : (m : List ℕ) (f : Hello) → ServerBounds m f → server_outside f ≡ false
unfolding server_outside opening_outside
server_inside m f b =
    rw (eq-eqb _ 32 b.random, le-ltb 32 _ b.identifier, eq-eqb _ 2 b.suite, eq-eqb _ 1 b.compression)

module _ (m : List ℕ) (f : Hello) (h : Bytes m) (e : read_client m ≡ fields f) where
  pub client_forth : Rewritten client_bytes m f
  unfolding read_client
  client_forth = message_forth client_form refl client_outside client_bytes client_body client_bytes_lem client_body_lem m f h e

  pub client_number_lem : (out : List ℕ) → client_number true f out ≡ pick (ltb (length out) (length m)) 10 0
  unfolding read_client
  client_number_lem =
      number_forth client_form refl client_outside client_bytes client_body client_bytes_lem client_body_lem m f h e
      (client_inside m f (client_bounds m f e))

module _ (m : List ℕ) (f : Hello) (h : Bytes m) (e : read_server m ≡ fields f) where
  pub server_forth : Rewritten server_bytes m f
  unfolding read_server
  server_forth = message_forth server_form refl server_outside server_bytes server_body server_bytes_lem server_body_lem m f h e

  pub server_number_lem : (out : List ℕ) → server_number true f out ≡ pick (ltb (length out) (length m)) 10 0
  unfolding read_server
  server_number_lem =
      number_forth server_form refl server_outside server_bytes server_body server_bytes_lem server_body_lem m f h e
      (server_inside m f (server_bounds m f e))
