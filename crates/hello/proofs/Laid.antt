-- Bytes that fit a hello's layout: which bytes of the message each field is.
-- Assumes nothing.
use mathlib.Core.Path.{◌≡◌, refl, sym, ◌∙◌, ap}
use mathlib.Core.Bool.{Bool, true, false}
use mathlib.Core.List.{List, ◌++◌}
use Prim.Native.Nat.{ℕ, ◌+◌, ◌%◌, ◌≤◌}
use native.Mathlib.Omega.{arith}
use lib.Dec.{eqb}
use lib.ListN.{length, take, drop, length-drop}
use borrow.Author.Tests.{eqb-true, ltb-false, not-false}
use lib.Seq.{drop-drop}
use Rattle.seqs.specs.Cases.{by_test}
use Rattle.hello.specs.Layout.{Parse, malformed, parsed, from, big}
use Rattle.hello.specs.Extensions.{Extension, twice}
use Rattle.message.specs.Frame.{kind_of, overlong, misstated, other_kind, header_tests}
use Rattle.refusal.specs.First.{Fault}
use Rattle.refusal.proofs.First.{first_zero, fault_number}
use Rattle.hello.specs.Fields.{Hello, Form, client_form, server_form, laid_out, body_tests, hello_fault, fields, fault, list_place, closing, reading_of, read_as, client_layout, server_layout}
use Rattle.hello.specs.Cuts.{well_formed_at, list_at}
use Rattle.message.proofs.Frames.{stated_long}
use Rattle.hello.proofs.Lists.{size_of_lem}
use Rattle.hello.proofs.Inversions.{pick_parsed, field_at, vector_at, opening_at, closing_at}

pub reading_zero : (e : Fault) (p : Parse Hello) (f : Hello) → reading_of e p ≡ fields f → (e.number ≡ 0) × (p ≡ parsed f)
reading_zero e (malformed q) f h = let z : ◌≡◌ {A = ℕ} 0 1 = cc in absurd (omega arith)
reading_zero e (parsed g) f h =
    by_test (eqb e.number 0)
    (λ t. let y : fields g ≡ fields f = rw t at h in (eqb-true _ 0 t, cc))
    (λ t. let y : fault e.number e.place ≡ fields f = rw t at h in let z : ◌≡◌ {A = ℕ} 0 1 = cc in absurd (omega arith))

pub parsed_same : {A : Type 0} {x y : A} → parsed x ≡ parsed y → y ≡ x
parsed_same e = cc

-- fields stand only where no test holds, in a message that is long enough to have a header
pub record Clean (k : Form) (m : List ℕ) (f : Hello) : Type 0 where
  pub shortest : 4 ≤ length m
  pub longest : length m ≤ 16388
  pub short : overlong m ≡ false
  pub kind : kind_of m ≡ k.kind
  pub stated : misstated m ≡ false
  pub laid : laid_out k m ≡ parsed f
  pub differ : twice f.extensions ≡ false
  pub version : k.wrong f.version ≡ false

pub clean : (k : Form) (m : List ℕ) (f : Hello) → read_as k m ≡ fields f → Clean k m f
unfolding hello_fault overlong other_kind
clean k m f e =
    let r = reading_zero (hello_fault k m) (laid_out k m) f e in
    let z = first_zero _ refl (sym (fault_number (header_tests k.kind m ++ body_tests k (laid_out k m))) ∙ r.0) in
    record {
      shortest = stated_long m z.1.1.0;
      longest = ltb-false 16388 (length m) z.0;
      short = z.0;
      kind = eqb-true (kind_of m) k.kind (not-false _ z.1.0);
      stated = z.1.1.0;
      laid = r.1;
      differ = rw r.1 at z.1.1.1.1.0;
      version = rw r.1 at z.1.1.1.1.1.0;
    }

-- a hello that was laid out, with its parts
pub record ClientParts (m : List ℕ) (f : Hello) : Type 0 where
  pub i : ℕ
  pub s : ℕ
  pub t : ℕ
  pub b : Bool
  pub short : i ≤ 32
  pub suites_from : 2 ≤ s
  pub suites_to : s ≤ 65534
  pub even : s % 2 ≡ 0
  pub methods_from : 1 ≤ t
  pub methods_to : t ≤ 255
  pub whole : 39 + i + 2 + s + 1 + t ≤ length m
  pub list : list_place b (39 + i + 2 + s + 1 + t) ≤ length m
  pub formed : well_formed_at m (list_place b (39 + i + 2 + s + 1 + t)) ≡ true
  pub is : f ≡ record {
    version = big (take 2 (drop 4 m));
    random = take 32 (drop 6 m);
    identifier = take i (drop 39 m);
    suites = take s (drop (39 + i + 2) m);
    methods = take t (drop (39 + i + 2 + s + 1) m);
    block = b;
    extensions = list_at m (list_place b (39 + i + 2 + s + 1 + t));
  }

pub client_parts : (m : List ℕ) (f : Hello) → 4 ≤ length m → laid_out client_form m ≡ parsed f → ClientParts m f
unfolding client_layout
client_parts m f h e =
    let o = opening_at f _ m 4 h e in
    let v = vector_at f _ 2 2 65534 m (39 + o.0) o.1 o.3 in
    let p = pick_parsed (eqb (length (take v.0 (drop (39 + o.0 + 2) m)) % 2) 0) _ _ f v.4 in
    let n : length (take v.0 (drop (39 + o.0 + 2) m)) ≡ v.0 = size_of_lem m (39 + o.0 + 2) v.0 v.1 in
    let w = vector_at f _ 1 1 255 m (39 + o.0 + 2 + v.0) v.1 p.1 in
    let c = closing_at f _ m (39 + o.0 + 2 + v.0 + 1 + w.0) w.1 w.4 in
    record {
      i = o.0;
      s = v.0;
      t = w.0;
      b = c.0;
      short = o.2;
      suites_from = v.2;
      suites_to = v.3;
      even = ap (λ (k : ℕ). k % 2) (sym n) ∙ eqb-true _ 0 p.0;
      methods_from = w.2;
      methods_to = w.3;
      whole = w.1;
      list = c.1;
      formed = c.2;
      is = parsed_same c.3;
    }

-- of a ServerHello, the fields before the extension block are known by the identifier's length i
abbrev pub server_fields : List ℕ → ℕ → Bool → List Extension → Hello
server_fields m i b es =
    record {
      version = big (take 2 (drop 4 m));
      random = take 32 (drop 6 m);
      identifier = take i (drop 39 m);
      suites = take 2 (drop (39 + i) m);
      methods = take 1 (drop (39 + i + 2) m);
      block = b;
      extensions = es;
    }

pub record ServerFront (m : List ℕ) (f : Hello) : Type 0 where
  pub i : ℕ
  pub short : i ≤ 32
  pub whole : 39 + i + 3 ≤ length m
  pub tail : closing (from m (39 + i + 3)) (λ b es. parsed (server_fields m i b es)) ≡ parsed f

pub server_front : (m : List ℕ) (f : Hello) → 4 ≤ length m → laid_out server_form m ≡ parsed f → ServerFront m f
unfolding server_layout
server_front m f h e =
    let o = opening_at f _ m 4 h e in
    let v = field_at f _ 2 (from m (39 + o.0)) o.3 in
    let w = field_at f _ 1 (from m (39 + o.0 + 2)) (rw drop-drop at v.1) in
    let n : 39 + o.0 + 2 + 1 ≡ 39 + o.0 + 3 = omega arith in
    let l : 39 + o.0 + 3 ≤ length m = omega (arith, length-drop (39 + o.0) m, length-drop (39 + o.0 + 2) m, v.0, w.0) in
    record { i = o.0; short = o.2; whole = l; tail = rw (drop-drop, n) at w.1 }

pub record ServerParts (m : List ℕ) (f : Hello) (p : ServerFront m f) : Type 0 where
  pub b : Bool
  pub list : list_place b (39 + p.i + 3) ≤ length m
  pub formed : well_formed_at m (list_place b (39 + p.i + 3)) ≡ true
  pub is : f ≡ server_fields m p.i b (list_at m (list_place b (39 + p.i + 3)))

pub server_parts : (m : List ℕ) (f : Hello) (p : ServerFront m f) → ServerParts m f p
server_parts m f p =
    let c = closing_at f _ m (39 + p.i + 3) p.whole p.tail in
    record { b = c.0; list = c.1; formed = c.2; is = parsed_same c.3 }
