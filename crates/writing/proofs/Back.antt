-- Reading what was written: each field, and then the whole of either hello, comes back as it was.
-- Assumes nothing.
use mathlib.Core.Path.{◌≡◌, refl, ◌∙◌, ap}
use mathlib.Core.Bool.{Bool, true, false, not, ◌&&◌}
use mathlib.Core.List.{List, [], ◌∷◌, ◌++◌, append_assoc}
use Prim.Native.Nat.{ℕ, suc, ◌+◌, ◌%◌, ◌≤◌}
use native.Mathlib.Omega.{arith}
use lib.Dec.{eqb, ltb}
use lib.ListN.{length, length-append}
use lib.Seq.{take_at, drop_at}
use borrow.Author.Tests.{eq-eqb, eqb-true, le-leb, le-ltb, ltb-false, not-false}
use Rattle.seqs.specs.Pick.{pick}
use Rattle.seqs.specs.Cases.{or_left, or_right}
use Rattle.refusal.specs.First.{first_fault}
use Rattle.refusal.proofs.First.{first_zero}
use Rattle.message.specs.Numbers.{byte_at, pair_at, triple_at}
use Rattle.message.specs.Frame.{overlong, cut_off, misstated, other_kind, kind_of, body_of}
use Rattle.hello.specs.Layout.{Parse, parsed, Left, big, field, counted, vector}
use Rattle.hello.specs.Extensions.{Extension, shaped, twice}
use Rattle.hello.specs.Fields.{Hello, Form, client_form, server_form, laid_out, fields, opening, closing, client_layout, server_layout, hello_fault, read_as, read_client, read_server}
use Rattle.hello.specs.Written.{two_bytes, written_block, Shaped}
use Rattle.hello.proofs.Vectors.{field_yes}
use Rattle.hello.proofs.Reread.{two_back, block_back}
use Rattle.writing.specs.Lists.{misshapen}
use Rattle.writing.specs.Messages.{message_of, vector8, vector16, opening_bytes, closing_bytes, client_bytes, server_bytes}
use Rattle.writing.proofs.Sizing.{none_of}
use Rattle.writing.specs.Promise.{opening_outside, client_outside, server_outside, unblocked, write_number, client_number, server_number}

-- the bodies of the two hellos, as the layouts take them apart
abbrev pub client_body : Hello → List ℕ
client_body f = opening_bytes f ++ (vector16 f.suites ++ (vector8 f.methods ++ closing_bytes f))

abbrev pub server_body : Hello → List ℕ
server_body f = opening_bytes f ++ (f.suites ++ (f.methods ++ closing_bytes f))

apart : (a b c d : List ℕ) → a ++ b ++ c ++ d ≡ a ++ (b ++ (c ++ d))
apart a b c d = append_assoc (a ++ b) c d ∙ append_assoc a b (c ++ d)

pub client_bytes_lem : (f : Hello) → client_bytes f ≡ message_of 1 (client_body f)
unfolding client_bytes
client_bytes_lem f = ap (message_of 1) (apart (opening_bytes f) (vector16 f.suites) (vector8 f.methods) (closing_bytes f))

pub server_bytes_lem : (f : Hello) → server_bytes f ≡ message_of 2 (server_body f)
unfolding server_bytes
server_bytes_lem f = ap (message_of 2) (apart (opening_bytes f) f.suites f.methods (closing_bytes f))

-- a field in front of the rest
field_back : {A : Type 0} (then : List ℕ → Left → Parse A) (at n : ℕ) (d rest : List ℕ) → length d ≡ n
    → field n (record { at = at; bytes = d ++ rest }) then ≡ then d (record { at = at + n; bytes = rest })
field_back then at n d rest e =
    field_yes then n (record { at = at; bytes = d ++ rest }) (rw length-append (omega arith)) ∙ (rw (take_at d rest n e, drop_at d rest n e))

-- a vector behind its length p, in however many bytes
module _ {A : Type 0} (at : ℕ) (p d rest : List ℕ) (s : big p ≡ length d) where
  counted_back : (then : List ℕ → Left → Parse A)
      → counted (length p) (record { at = at; bytes = p ++ (d ++ rest) }) then ≡ then d (record { at = at + length p + length d; bytes = rest })
  unfolding counted
  counted_back then =
      field_back _ at (length p) p (d ++ rest) refl
      ∙ (rw (s, le-leb (length d) (length (d ++ rest)) (rw length-append (omega arith)), take_at d rest _ refl, drop_at d rest _ refl))

  vector_back : (then : List ℕ → Left → Parse A) (low high : ℕ) → low ≤ length d → length d ≤ high
      → vector (length p) low high (record { at = at; bytes = p ++ (d ++ rest) }) then ≡ then d (record { at = at + length p + length d; bytes = rest })
  unfolding vector
  vector_back then low high l h = counted_back _ ∙ (rw (le-leb low (length d) l, le-leb (length d) high h))

one_back : (n : ℕ) → big (n ∷ []) ≡ n
unfolding big
one_back n = omega arith

-- the opening
module _ (f : Hello) (within : opening_outside f ≡ false) where
  opening_back : (then : List ℕ → List ℕ → List ℕ → Left → Parse Hello) (at : ℕ) (rest : List ℕ)
      → opening (record { at = at; bytes = opening_bytes f ++ rest }) then
      ≡ then (two_bytes f.version) f.random f.identifier (record { at = at + 2 + 32 + 1 + length f.identifier; bytes = rest })
  unfolding opening opening_outside
  opening_back then at rest =
      let n = none_of (not (eqb (length f.random) 32)) (ltb 32 (length f.identifier) ∷ []) within in
      rw (append_assoc f.random (vector8 f.identifier) rest)
      (field_back _ at 2 (two_bytes f.version) (f.random ++ (vector8 f.identifier ++ rest)) refl
      ∙ field_back _ _ 32 f.random (vector8 f.identifier ++ rest) (eqb-true _ 32 (not-false _ n.0))
      ∙ vector_back _ (length f.identifier ∷ []) f.identifier rest (one_back _) _ 0 32 (omega arith) (ltb-false 32 _ n.1.0))

pub empty : {A : Type 0} (l : List A) → eqb (length l) 0 ≡ true → l ≡ []
empty [] e = refl
empty (a ∷ l) e = absurd (omega (arith, eqb-true (suc (length l)) 0 e))

-- the extensions
shaped_all : (es : List Extension) → misshapen es ≡ false → Shaped es
unfolding misshapen
shaped_all [] h = tt
shaped_all (e ∷ es) h =
    (not-false _ (or_left _ (misshapen es) h), shaped_all es (or_right (not (shaped e.kind e.content)) _ h))

closing_back : (f : Hello) (then : Bool → List Extension → Parse Hello) (at : ℕ) → unblocked f ≡ false → misshapen f.extensions ≡ false
    → closing (record { at = at; bytes = closing_bytes f }) then ≡ then f.block f.extensions
unfolding unblocked closing
closing_back f then at u m = go f.block f.extensions u (shaped_all f.extensions m)
  where
    go : (b : Bool) (es : List Extension) → (not b && not (eqb (length es) 0)) ≡ false → Shaped es
        → closing (record { at = at; bytes = pick b (written_block es) [] }) then ≡ then b es
    go true es u s = block_back then at es s
    go false es u s = rw (empty es (not-false _ u))

-- the bodies
abbrev Laid : (Left → Parse Hello) → (Hello → Bool) → (Hello → List ℕ) → Type 0
Laid layout outside body =
    (at : ℕ) (f : Hello) → outside f ≡ false → unblocked f ≡ false → misshapen f.extensions ≡ false → layout (record { at = at; bytes = body f }) ≡ parsed f

client_laid : Laid client_layout client_outside client_body
unfolding client_outside client_layout
client_laid at f o u m =
    let s = f.suites in
    let t = f.methods in
    let n = none_of (opening_outside f) (ltb (length s) 2 ∷ ltb 65534 (length s) ∷ not (eqb (length s % 2) 0) ∷ ltb (length t) 1 ∷ ltb 255 (length t) ∷ []) o in
    let s-from : 2 ≤ length s = ltb-false _ 2 n.1.0 in
    let s-to : length s ≤ 65534 = ltb-false 65534 _ n.1.1.0 in
    let t_from : 1 ≤ length t = ltb-false _ 1 n.1.1.1.1.0 in
    let t-to : length t ≤ 255 = ltb-false 255 _ n.1.1.1.1.1.0 in
    opening_back f n.0 _ at _
    ∙ vector_back _ (two_bytes (length s)) s (vector8 t ++ closing_bytes f) (two_back _) _ 2 65534 s-from s-to
    ∙ (rw (not-false (eqb (length s % 2) 0) n.1.1.1.0)
    (vector_back _ (length t ∷ []) t (closing_bytes f) (one_back _) _ 1 255 t_from t-to ∙ closing_back f _ _ u m ∙ (rw two_back)))

server_laid : Laid server_layout server_outside server_body
unfolding server_outside server_layout
server_laid at f o u m =
    let n = none_of (opening_outside f) (not (eqb (length f.suites) 2) ∷ not (eqb (length f.methods) 1) ∷ []) o in
    opening_back f n.0 _ at _
    ∙ field_back _ _ 2 f.suites (f.methods ++ closing_bytes f) (eqb-true _ 2 (not-false _ n.1.0))
    ∙ field_back _ _ 1 f.methods (closing_bytes f) (eqb-true _ 1 (not-false _ n.1.1.0))
    ∙ closing_back f _ _ u m
    ∙ (rw two_back)

-- the header states the body's length
stated_back : (kind : ℕ) (body : List ℕ) → misstated (message_of kind body) ≡ false
unfolding misstated cut_off body_of triple_at pair_at byte_at
stated_back kind body =
    let m = message_of kind body in
    rw (le-ltb (length m) 4 (omega arith), eq-eqb (triple_at m 1) (length body) (omega arith))

-- a message that is laid out so reads as these fields
message_back : (k : Form) (body : List ℕ) (f : Hello) → laid_out k (message_of k.kind body) ≡ parsed f
    → overlong (message_of k.kind body) ≡ false → twice f.extensions ≡ false → k.wrong f.version ≡ false
    → read_as k (message_of k.kind body) ≡ fields f
unfolding hello_fault first_fault other_kind kind_of byte_at
message_back k body f e l t v = rw (e, l, stated_back k.kind body, eq-eqb k.kind k.kind refl, t, v)

-- what the number 0 tells of the fields
module _ (outside : Hello → Bool) (bytes : Hello → List ℕ) (wrong : ℕ → Bool) (f : Hello) (out : List ℕ) where
  record Sound : Type 0 where
    inside : outside f ≡ false
    blocked : unblocked f ≡ false
    short : overlong (bytes f) ≡ false
    shapes : misshapen f.extensions ≡ false
    differ : twice f.extensions ≡ false
    version : wrong f.version ≡ false

  sound : write_number outside bytes wrong true f out ≡ 0 → Sound
  unfolding write_number
  sound e =
      let z = first_zero _ refl e in
      record {
        inside = z.0;
        blocked = z.1.1.0;
        short = z.1.1.1.0;
        shapes = z.1.1.1.1.0;
        differ = z.1.1.1.1.1.0;
        version = z.1.1.1.1.1.1.0;
      }

-- of either hello, by what is known of its body
module _ (k : Form) (begins : k.start ≡ 4) (outside : Hello → Bool) (bytes body : Hello → List ℕ)
    (whole : (f : Hello) → bytes f ≡ message_of k.kind (body f)) (laid : Laid k.layout outside body) where
  message_reads : (f : Hello) (out : List ℕ) → write_number outside bytes k.wrong true f out ≡ 0 → read_as k (bytes f) ≡ fields f
  message_reads f out e =
      let s = sound outside bytes k.wrong f out e in
      let l : laid_out k (message_of k.kind (body f)) ≡ parsed f = rw begins (laid 4 f s.inside s.blocked s.shapes) in
      rw (whole f) (message_back k (body f) f l (rw (whole f) at s.short) s.differ s.version)

pub client_reads : (f : Hello) (out : List ℕ) → client_number true f out ≡ 0 → read_client (client_bytes f) ≡ fields f
unfolding read_client
client_reads = message_reads client_form refl client_outside client_bytes client_body client_bytes_lem client_laid

pub server_reads : (f : Hello) (out : List ℕ) → server_number true f out ≡ 0 → read_server (server_bytes f) ≡ fields f
unfolding read_server
server_reads = message_reads server_form refl server_outside server_bytes server_body server_bytes_lem server_laid
