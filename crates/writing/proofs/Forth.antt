-- Writing what was read: the bytes that a field was read from are the bytes that are written of it, and so for the whole of either hello.
-- Assumes nothing.
use mathlib.Core.Path.{◌≡◌, refl, sym, ◌∙◌, ap}
use mathlib.Core.Bool.{Bool, true, false, not, ◌&&◌}
use mathlib.Core.List.{List, [], ◌∷◌, ◌++◌, append_assoc}
use Prim.Native.Nat.{ℕ, zero, suc, ◌/◌, ◌%◌}
use native.Mathlib.Omega.{arith}
use lib.Dec.{eqb, leb}
use lib.ListN.{length, take, take-append-drop}
use lib.Seq.{length-take-le}
use borrow.Author.Tests.{eqb-true, leb-true}
use Rattle.seqs.specs.Pick.{pick}
use Rattle.seqs.specs.Bytes.{Bytes}
use Rattle.seqs.specs.Cases.{by_test}
use Rattle.hello.specs.Layout.{Parse, malformed, parsed, Left, past, big, field, counted, vector}
use Rattle.hello.specs.Extensions.{Extension, shaped, extension, more, list_of, extensions_of}
use Rattle.hello.specs.Fields.{Hello, listed, opening, closing}
use Rattle.hello.specs.Written.{two_bytes, written_list, written_block}
use Rattle.hello.proofs.Inversions.{no_parsed, pick_parsed, field_at}
use Rattle.hello.proofs.Laid.{parsed_same}
use Rattle.writing.specs.Lists.{misshapen}
use Rattle.writing.specs.Messages.{vector8, vector16}
use Rattle.writing.proofs.Back.{empty}

-- parts of bytes
pub bytes_left : (a b : List ℕ) → Bytes (a ++ b) → Bytes a
bytes_left [] b h i = omega arith
bytes_left (x ∷ a) b h zero = h 0
bytes_left (x ∷ a) b h (suc i) = bytes_left a b (λ j. h (suc j)) i

pub bytes_right : (a b : List ℕ) → Bytes (a ++ b) → Bytes b
bytes_right [] b h = h
bytes_right (x ∷ a) b h = bytes_right a b (λ j. h (suc j))

-- a number, cut into its bytes again
pub one_forth : (l : List ℕ) → length l ≡ 1 → big l ∷ [] ≡ l
unfolding big
one_forth [] e = absurd (omega arith)
one_forth (a ∷ []) e = let n : big (a ∷ []) ≡ a = omega arith in ap (λ (x : ℕ). x ∷ []) n
one_forth (a ∷ b ∷ l) e = absurd (omega arith)

pub two_forth : (l : List ℕ) → Bytes l → length l ≡ 2 → two_bytes (big l) ≡ l
unfolding big
two_forth [] h e = absurd (omega arith)
two_forth (a ∷ []) h e = absurd (omega arith)
two_forth (a ∷ b ∷ []) h e =
    let q : big (a ∷ b ∷ []) / 256 ≡ a = omega (arith, h 1) in
    let r : big (a ∷ b ∷ []) % 256 ≡ b = omega (arith, h 1) in
    rw (q, r)
two_forth (a ∷ b ∷ c ∷ l) h e = absurd (omega arith)

-- what was taken from the front
module _ {A : Type 0} (x : A) (then : List ℕ → Left → Parse A) (l : Left) where
  pub record Field (n : ℕ) : Type 0 where
    pub part : List ℕ
    pub rest : Left
    pub is : l.bytes ≡ part ++ rest.bytes
    pub size : length part ≡ n
    pub on : then part rest ≡ parsed x

  pub field_forth : (n : ℕ) → field n l then ≡ parsed x → Field n
  field_forth n e =
      let f = field_at x then n l e in
      record { part = take n l.bytes; rest = past n l; is = sym (take-append-drop n l.bytes); size = length-take-le n l.bytes f.0; on = f.1 }

  -- a field of two is a number, cut into its bytes
  pub paired : (a : Field 2) → Bytes l.bytes → l.bytes ≡ two_bytes (big a.part) ++ a.rest.bytes
  paired a h =
      let b : Bytes a.part = bytes_left a.part a.rest.bytes (rw a.is at h) in
      a.is ∙ ap (λ (p : List ℕ). p ++ a.rest.bytes) (sym (two_forth a.part b a.size))

  -- behind a length in w bytes
  pub record Counted (w : ℕ) : Type 0 where
    pub front : List ℕ
    pub part : List ℕ
    pub rest : Left
    pub is : l.bytes ≡ front ++ (part ++ rest.bytes)
    pub width : length front ≡ w
    pub counts : big front ≡ length part
    pub on : then part rest ≡ parsed x

  module _ (w : ℕ) (c : Counted w) where
    pub narrow : w ≡ 1 → l.bytes ≡ vector8 c.part ++ c.rest.bytes
    narrow e = c.is ∙ ap (λ (p : List ℕ). p ++ (c.part ++ c.rest.bytes)) (sym (one_forth c.front (c.width ∙ e)) ∙ ap (λ (n : ℕ). n ∷ []) c.counts)

    pub wide : w ≡ 2 → Bytes l.bytes → l.bytes ≡ vector16 c.part ++ c.rest.bytes
    wide e h =
        let b : Bytes c.front = bytes_left c.front (c.part ++ c.rest.bytes) (rw c.is at h) in
        c.is ∙ ap (λ (p : List ℕ). p ++ (c.part ++ c.rest.bytes)) (sym (two_forth c.front b (c.width ∙ e)) ∙ ap two_bytes c.counts)

counted_forth : {A : Type 0} (x : A) (then : List ℕ → Left → Parse A) (w : ℕ) (l : Left) → counted w l then ≡ parsed x → Counted x then l w
unfolding counted
counted_forth x then w l e =
    let a = field_forth x _ l w e in
    let n = big a.part in
    let r = a.rest.bytes in
    let p = pick_parsed (leb n (length r)) _ _ x a.on in
    record {
      front = a.part;
      part = take n r;
      rest = past n a.rest;
      is = a.is ∙ ap (λ (b : List ℕ). a.part ++ b) (sym (take-append-drop n r));
      width = a.size;
      counts = sym (length-take-le n r (leb-true _ _ p.0));
      on = p.1;
    }

pub vector_forth : {A : Type 0} (x : A) (then : List ℕ → Left → Parse A) (w low high : ℕ) (l : Left)
    → vector w low high l then ≡ parsed x → Counted x then l w
unfolding vector
vector_forth x then w low high l e =
    let c = counted_forth x _ w l e in
    record {
      front = c.front;
      part = c.part;
      rest = c.rest;
      is = c.is;
      width = c.width;
      counts = c.counts;
      on = (pick_parsed (leb (length c.part) high) _ _ x (pick_parsed (leb low (length c.part)) _ _ x c.on).1).1;
    }

-- the opening
pub record Opened (f : Hello) (then : List ℕ → List ℕ → List ℕ → Left → Parse Hello) (l : Left) : Type 0 where
  pub version : List ℕ
  pub random : List ℕ
  pub identifier : List ℕ
  pub rest : Left
  pub is : l.bytes ≡ two_bytes (big version) ++ random ++ vector8 identifier ++ rest.bytes
  pub on : then version random identifier rest ≡ parsed f

pub opening_forth : (f : Hello) (then : List ℕ → List ℕ → List ℕ → Left → Parse Hello) (l : Left) → Bytes l.bytes → opening l then ≡ parsed f → Opened f then l
unfolding opening
opening_forth f then l h e =
    let v = field_forth f _ l 2 e in
    let r = field_forth f _ v.rest 32 v.on in
    let i = vector_forth f _ 1 0 32 r.rest r.on in
    record {
      version = v.part;
      random = r.part;
      identifier = i.part;
      rest = i.rest;
      is =
          paired f _ l v h
          ∙ ap (λ (p : List ℕ). two_bytes (big v.part) ++ p)
          (r.is ∙ ap (λ (p : List ℕ). r.part ++ p) (narrow f _ r.rest 1 i refl) ∙ sym (append_assoc r.part (vector8 i.part) i.rest.bytes));
      on = i.on;
    }

-- the extensions
record Extended (es : List Extension) (then : Extension → Left → Parse (List Extension)) (l : Left) : Type 0 where
  first : Extension
  rest : Left
  is : l.bytes ≡ two_bytes first.kind ++ (vector16 first.content ++ rest.bytes)
  shape : shaped first.kind first.content ≡ true
  on : then first rest ≡ parsed es

extension_forth : (es : List Extension) (then : Extension → Left → Parse (List Extension)) (l : Left) → Bytes l.bytes
    → extension l then ≡ parsed es → Extended es then l
unfolding extension
extension_forth es then l h e =
    let t = field_forth es _ l 2 e in
    let c = counted_forth es _ 2 t.rest t.on in
    let b : Bytes t.rest.bytes = bytes_right t.part t.rest.bytes (rw t.is at h) in
    let p = pick_parsed (shaped (big t.part) c.part) _ _ es c.on in
    record {
      first = record { kind = big t.part; content = c.part };
      rest = c.rest;
      is = paired es _ l t h ∙ ap (λ (p : List ℕ). two_bytes (big t.part) ++ p) (wide es _ t.rest 2 c refl b);
      shape = p.0;
      on = p.1;
    }

more_forth : (e : Extension) (p : Parse (List Extension)) (es : List Extension) → more e p ≡ parsed es → (r : List Extension) × (p ≡ parsed r) × (es ≡ e ∷ r)
more_forth e (malformed q) es h = no_parsed refl h
more_forth e (parsed r) es h = (r, refl, parsed_same h)

-- they are written again, and have their shape
abbrev Again : List Extension → List ℕ → Type 0
Again es l = (written_list es ≡ l) × (misshapen es ≡ false)

none_again : (l : List ℕ) (es : List Extension) → eqb (length l) 0 ≡ true → parsed [] ≡ parsed es → Again es l
unfolding written_list misshapen
none_again l es z e = rw (parsed_same e, empty l z) (refl, refl)

more_again : (e : Extension) (r es : List Extension) (rest l : List ℕ) → es ≡ e ∷ r → l ≡ two_bytes e.kind ++ (vector16 e.content ++ rest)
    → shaped e.kind e.content ≡ true → Again r rest → Again es l
unfolding written_list misshapen
more_again e r es rest l m is s a = rw (m, is, s, a.0, a.1) (refl, refl)

list_forth : (n : ℕ) (l : Left) (es : List Extension) → Bytes l.bytes → list_of n l ≡ parsed es → Again es l.bytes
unfolding list_of
list_forth zero l es h e = let p = pick_parsed (eqb (length l.bytes) 0) _ _ es e in none_again l.bytes es p.0 p.1
list_forth (suc n) l es h e =
    by_test (eqb (length l.bytes) 0)
    (λ z. none_again l.bytes es z (rw z at e))
    (λ z.
    let x = extension_forth es _ l h (rw z at e) in
    let m = more_forth x.first (list_of n x.rest) es x.on in
    let b : Bytes x.rest.bytes = bytes_right x.first.content x.rest.bytes (λ i. (rw x.is at h) (suc (suc (suc (suc i))))) in
    more_again x.first m.0 es x.rest.bytes l.bytes m.2 x.is x.shape (list_forth n x.rest m.0 b m.1))

-- the last field: a block, or none
pub record Closed (f : Hello) (then : Bool → List Extension → Parse Hello) (l : Left) : Type 0 where
  pub block : Bool
  pub extensions : List Extension
  pub is : l.bytes ≡ pick block (written_block extensions) []
  pub blocked : (not block && not (eqb (length extensions) 0)) ≡ false
  pub shapes : misshapen extensions ≡ false
  pub on : then block extensions ≡ parsed f

listed_forth : (f : Hello) (p : Parse (List Extension)) (then : List Extension → Parse Hello) → listed p then ≡ parsed f
    → (es : List Extension) × (p ≡ parsed es) × (then es ≡ parsed f)
listed_forth f (malformed q) then e = no_parsed refl e
listed_forth f (parsed es) then e = (es, refl, e)

pub closing_forth : (f : Hello) (then : Bool → List Extension → Parse Hello) (l : Left) → Bytes l.bytes → closing l then ≡ parsed f → Closed f then l
unfolding closing written_block misshapen extensions_of
closing_forth f then l h e =
    by_test (eqb (length l.bytes) 0)
    (λ z. record { block = false; extensions = []; is = empty l.bytes z; blocked = refl; shapes = refl; on = rw z at e })
    (λ z.
    let n = field_forth f _ l 2 (rw z at e) in
    let r = n.rest.bytes in
    let p = pick_parsed (eqb (big n.part) (length r)) _ _ f n.on in
    let x = listed_forth f (extensions_of n.rest) _ p.1 in
    let a = list_forth (length r) n.rest x.0 (bytes_right n.part r (rw n.is at h)) x.1 in
    let w : l.bytes ≡ vector16 r = paired f _ l n h ∙ ap (λ (k : ℕ). two_bytes k ++ r) (eqb-true _ _ p.0) in
    record { block = true; extensions = x.0; is = w ∙ ap vector16 (sym a.0); blocked = refl; shapes = a.1; on = x.2 })
