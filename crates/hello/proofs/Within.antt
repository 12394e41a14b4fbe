-- A fault's place is at most the end of what holds it: field by field, and so of the whole of either hello.
-- Assumes nothing.
use mathlib.Core.Path.{◌≡◌, refl}
use mathlib.Core.Bool.{Bool, true, false}
use mathlib.Core.List.{List, [], ◌∷◌, ◌++◌}
use Prim.Native.Nat.{ℕ, zero, suc, ◌+◌, ◌%◌, ◌≤◌}
use native.Mathlib.Omega.{arith}
use lib.Dec.{leb, eqb}
use lib.ListN.{length, take, drop, length-drop}
use borrow.Author.Tests.{leb-true, leb-false, ltb-false}
use Rattle.seqs.specs.Pick.{pick}
use Rattle.seqs.specs.Cases.{by_test}
use Rattle.refusal.specs.First.{first_fault}
use Rattle.message.specs.Frame.{overlong, cut_off, misstated, header_place, other_kind}
use Rattle.message.proofs.Frames.{stated_long}
use Rattle.hello.specs.Layout.{Parse, malformed, parsed, Left, from, past, end_of, big, field, counted, vector}
use Rattle.hello.specs.Extensions.{Extension, shaped, has, twice, extension, more, list_of, extensions_of, repeat_from}
use Rattle.hello.specs.Fields.{Hello, Form, client_form, server_form, laid_out, body_tests, hello_fault, read_as, fault, list_place, listed, opening, closing, client_layout, server_layout, read_client, read_server}
use Rattle.hello.specs.Places.{size_of}
use Rattle.hello.specs.Within.{ClientPlaceWithin, ServerPlaceWithin}
use Rattle.hello.proofs.Vectors.{field_yes, field_no, end_from}
use Rattle.hello.proofs.Learnt.{fault_is}
use Rattle.hello.proofs.Laid.{client_parts, server_front, server_parts}
use Rattle.hello.proofs.Lists.{size_of_lem}
use Rattle.hello.proofs.Closings.{list_size}

-- a fault, if it is one, stands at e at the latest
abbrev Ends : {A : Type 0} → ℕ → Parse A → Type 0
Ends e (malformed p) = p ≤ e
Ends e (parsed x) = Unit {0}

ends_pick : {A : Type 0} (e : ℕ) (b : Bool) (x : Parse A) (p : ℕ) → Ends e x → p ≤ e → Ends e (pick b x (malformed p))
ends_pick e true x p h k = h
ends_pick e false x p h k = k

end_past : (n : ℕ) (l : Left) → n ≤ length l.bytes → end_of (past n l) ≡ end_of l
end_past n l h = rw length-drop (omega arith)

-- what follows a field of n bytes begins n bytes on, and ends where the field's holder ends
abbrev Follows : {A : Type 0} → ℕ → ℕ → (List ℕ → Left → Parse A) → Type 0
Follows e at then = (d : List ℕ) (r : Left) → at ≤ r.at → end_of r ≤ e → Ends e (then d r)

module _ {A : Type 0} (e : ℕ) (then : List ℕ → Left → Parse A) (l : Left) (h : end_of l ≤ e) where
  field_ends : (n : ℕ) → Follows e (l.at + n) then → Ends e (field n l then)
  field_ends n f =
      by_test (leb n (length l.bytes))
      (λ p. let k = leb-true n (length l.bytes) p in rw (field_yes then n l k) (f (take n l.bytes) (past n l) (omega arith) (omega (arith, end_past n l k))))
      (λ p. rw (field_no then n l (leb-false _ _ p)) h)

counted_ends : {A : Type 0} (e : ℕ) (then : List ℕ → Left → Parse A) (l : Left) → end_of l ≤ e → (w : ℕ) → Follows e (l.at + w) then → Ends e (counted w l then)
unfolding counted
counted_ends e then l h w f =
    field_ends e _ l h w
    (λ d r a b.
    by_test (leb (big d) (length r.bytes))
    (λ p. let k = leb-true (big d) (length r.bytes) p in rw p (f (take (big d) r.bytes) (past (big d) r) (omega arith) (omega (arith, end_past (big d) r k))))
    (λ p. rw p (omega arith)))

vector_ends : {A : Type 0} (e : ℕ) (then : List ℕ → Left → Parse A) (l : Left) → end_of l ≤ e → (w low high : ℕ) → Follows e (l.at + w) then → Ends e (vector w low high l then)
unfolding vector
vector_ends e then l h w low high f =
    counted_ends e _ l h w
    (λ d r a b. ends_pick e (leb low (length d)) _ l.at (ends_pick e (leb (length d) high) _ l.at (f d r a b) (omega arith)) (omega arith))

extension_ends : (e : ℕ) (then : Extension → Left → Parse (List Extension)) (l : Left) → end_of l ≤ e
    → ((x : Extension) (r : Left) → end_of r ≤ e → Ends e (then x r)) → Ends e (extension l then)
unfolding extension
extension_ends e then l h f =
    field_ends e _ l h 2
    (λ t r a b.
    counted_ends e _ r b 2
    (λ d rest c g. ends_pick e (shaped (big t) d) _ (l.at + 4) (f (record { kind = big t; content = d }) rest g) (omega arith)))

more_ends : (e : ℕ) (x : Extension) (p : Parse (List Extension)) → Ends e p → Ends e (more x p)
more_ends e x (malformed p) h = h
more_ends e x (parsed es) h = tt

list_ends : (e k : ℕ) (l : Left) → end_of l ≤ e → Ends e (list_of k l)
unfolding list_of
list_ends e zero l h = ends_pick e (eqb (length l.bytes) 0) (parsed []) l.at tt (omega arith)
list_ends e (suc k) l h =
    by_test (eqb (length l.bytes) 0)
    (λ p. rw p tt)
    (λ p. rw p (extension_ends e _ l h (λ x r b. more_ends e x (list_of k r) (list_ends e k r b))))

listed_ends : (e : ℕ) (p : Parse (List Extension)) (then : List Extension → Parse Hello) → Ends e p → ((es : List Extension) → Ends e (then es)) → Ends e (listed p then)
listed_ends e (malformed p) then h f = h
listed_ends e (parsed es) then h f = f es

closing_ends : (e : ℕ) (then : Bool → List Extension → Parse Hello) (l : Left) → end_of l ≤ e → ((b : Bool) (es : List Extension) → Ends e (then b es)) → Ends e (closing l then)
unfolding closing extensions_of
closing_ends e then l h f =
    by_test (eqb (length l.bytes) 0)
    (λ p. rw p (f false []))
    (λ p.
    rw p
    (field_ends e _ l h 2
    (λ n r a b. ends_pick e (eqb (big n) (length r.bytes)) _ l.at (listed_ends e (list_of (length r.bytes) r) _ (list_ends e (length r.bytes) r b) (λ es. f true es)) (omega arith))))

opening_ends : (e : ℕ) (then : List ℕ → List ℕ → List ℕ → Left → Parse Hello) (l : Left) → end_of l ≤ e
    → ((version random identifier : List ℕ) (r : Left) → end_of r ≤ e → Ends e (then version random identifier r)) → Ends e (opening l then)
unfolding opening
opening_ends e then l h f =
    field_ends e _ l h 2
    (λ version l₁ a₁ h₁.
    field_ends e _ l₁ h₁ 32
    (λ random l₂ a₂ h₂. vector_ends e _ l₂ h₂ 1 0 32 (λ identifier l₃ a₃ h₃. f version random identifier l₃ h₃)))

client_ends : (e : ℕ) (l : Left) → end_of l ≤ e → Ends e (client_layout l)
unfolding client_layout
client_ends e l h =
    opening_ends e _ l h
    (λ version random identifier l₁ h₁.
    vector_ends e _ l₁ h₁ 2 2 65534
    (λ suites l₂ a₂ h₂.
    ends_pick e (eqb (length suites % 2) 0) _ l₁.at
    (vector_ends e _ l₂ h₂ 1 1 255 (λ methods l₃ a₃ h₃. closing_ends e _ l₃ h₃ (λ b es. tt)))
    (omega arith)))

server_ends : (e : ℕ) (l : Left) → end_of l ≤ e → Ends e (server_layout l)
unfolding server_layout
server_ends e l h =
    opening_ends e _ l h
    (λ version random identifier l₁ h₁.
    field_ends e _ l₁ h₁ 2
    (λ suites l₂ a₂ h₂. field_ends e _ l₂ h₂ 1 (λ methods l₃ a₃ h₃. closing_ends e _ l₃ h₃ (λ b es. tt))))

-- a repeat stands in the list
repeat_within : (before : List Extension) (at : ℕ) (es : List Extension) → repeat_from before at es ≤ at + size_of es
unfolding repeat_from size_of
repeat_within before at [] = omega arith
repeat_within before at (e ∷ es) =
    by_test (has e.kind before)
    (λ p. rw p (omega arith))
    (λ p. rw p (omega (arith, repeat_within (before ++ (e ∷ [])) (at + 4 + length e.content) es)))

-- what is left to say of a form: its layout ends within the message, and so does the list of extensions
record Within (k : Form) : Type 0 where
  layout : (e : ℕ) (l : Left) → end_of l ≤ e → Ends e (k.layout l)
  start : k.start ≡ 4
  list : (m : List ℕ) (f : Hello) → 4 ≤ length m → laid_out k m ≡ parsed f → k.list k.start f + size_of f.extensions ≤ length m

client_within : Within client_form
client_within =
    record {
      layout = client_ends;
      start = refl;
      list = λ m f h e.
          let p = client_parts m f h e in
          let l : length (take p.i (drop 39 m)) ≡ p.i = size_of_lem m 39 p.i (omega (arith, p.whole)) in
          let n : length (take p.s (drop (39 + p.i + 2) m)) ≡ p.s = size_of_lem m (39 + p.i + 2) p.s (omega (arith, p.whole)) in
          let k : length (take p.t (drop (39 + p.i + 2 + p.s + 1) m)) ≡ p.t = size_of_lem m (39 + p.i + 2 + p.s + 1) p.t p.whole in
          rw (p.is, l, n, k) (omega (arith, p.list, list_size m (list_place p.b (39 + p.i + 2 + p.s + 1 + p.t)) p.list p.formed));
    }

server_within : Within server_form
server_within =
    record {
      layout = server_ends;
      start = refl;
      list = λ m f h e.
          let g = server_front m f h e in
          let p = server_parts m f g in
          let l : length (take g.i (drop 39 m)) ≡ g.i = size_of_lem m 39 g.i (omega (arith, g.whole)) in
          rw (p.is, l) (omega (arith, p.list, list_size m (list_place p.b (39 + g.i + 3)) p.list p.formed));
    }

module _ (k : Form) (w : Within k) (m : List ℕ) where
  -- by the layout, in a message whose header was read
  laid_within : 4 ≤ length m → (p : Parse Hello) → laid_out k m ≡ p → (first_fault (body_tests k p)).place ≤ length m
  unfolding first_fault
  laid_within h (malformed q) e =
      let s : k.start ≤ length m = omega (arith, w.start) in
      rw e at (w.layout (length m) (from m k.start) (omega (arith, end_from m k.start s)))
  laid_within h (parsed f) e = ends (twice f.extensions) (k.wrong f.version)
    where
      ends : (t v : Bool) → (first_fault ((1, 0, false) ∷ (2, repeat_from [] (k.list k.start f) f.extensions, t) ∷ (3, 0, v) ∷ [])).place ≤ length m
      ends true v = omega (arith, repeat_within [] (k.list k.start f) f.extensions, w.list m f h e)
      ends false true = omega arith
      ends false false = omega arith

  fault_within : ((hello_fault k m).place ≤ length m) × ((hello_fault k m).place ≤ 16388)
  unfolding hello_fault first_fault overlong header_place cut_off
  fault_within =
      by_test (overlong m)
      (λ o. rw o (omega arith))
      (λ o.
      let short : length m ≤ 16388 = ltb-false 16388 (length m) o in
      by_test (other_kind k.kind m)
      (λ t. rw (o, t) (omega arith))
      (λ t.
      by_test (misstated m)
      (λ s.
      by_test (cut_off m)
      (λ c. rw (o, t, s, c) (omega arith))
      (λ c. rw (o, t, s, c) (omega (arith, ltb-false (length m) 4 c))))
      (λ s. let b = laid_within (stated_long m s) (laid_out k m) refl in rw (o, t, s) (b, omega (arith, b)))))

  read_within : (n p : ℕ) → read_as k m ≡ fault n p → (p ≤ length m) × (p ≤ 16388)
  read_within n p e =
      let x = fault_is (hello_fault k m) n p (laid_out k m) e in
      (omega (arith, x.1, fault_within.0), omega (arith, x.1, fault_within.1))

pub client_place_within : ClientPlaceWithin
unfolding read_client
client_place_within = read_within client_form client_within

pub server_place_within : ServerPlaceWithin
unfolding read_server
server_place_within = read_within server_form server_within
