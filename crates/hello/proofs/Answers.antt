-- The readings' faults in their order: each way out of a reader is the first test that holds. It is said once for both readers, over
-- what differs between them.
-- Assumes nothing.
use mathlib.Core.Path.{◌≡◌, refl, sym, ◌∙◌, ap, ap₂}
use mathlib.Core.Bool.{true, false}
use mathlib.Core.List.{List}
use Prim.Native.Nat.{ℕ, ◌≤◌}
use native.Mathlib.Omega.{arith}
use lib.ListN.{length}
use borrow.Author.Tests.{ne_eqb}
use Rattle.std.specs.Prelude.{Result, Ok, Err, ⊤}
use Rattle.seqs.specs.Cases.{by_test}
use Rattle.refusal.specs.First.{Fault, first_fault}
use Rattle.refusal.specs.Table.{refusal_at}
use Rattle.refusal.specs.Reason.{refusal_for, refused}
use Rattle.refusal.specs.declared.Reason.{Reason}
use Rattle.refusal.specs.declared.Reason.TheVariants as reason
use Rattle.refusal.specs.declared.Refusal.{Refusal}
use Rattle.refusal.proofs.First.{fault_front}
use Rattle.message.specs.Frame.{framed_as, header_tests, overlong, misstated, other_kind}
use Rattle.message.specs.declared.header.Header.{Header}
use Rattle.message.proofs.Frames.{as_whole, as_refused}
use Rattle.hello.specs.Layout.{Parse, malformed, parsed}
use Rattle.hello.specs.Extensions.{Extension, twice, repeat_at}
use Rattle.hello.specs.Fields.{Hello, Form, client_form, server_form, laid_out, Reading, fields, fault, hello_fault, reading_of, read_as, read_client, read_server}
use Rattle.hello.specs.Places.{client_places, server_places, client_answer, server_answer}
use Rattle.hello.specs.Cuts.{Broken}
use Rattle.hello.specs.Entries.{differ_from}
use Rattle.hello.specs.declared.client.ClientHello.{ClientHello}
use Rattle.hello.specs.declared.server.ServerHello.{ServerHello}

-- what differs: the form that is asked for, and the struct of the fields
pub record Reader : Type 1 where
  pub Fields : Type 0
  pub form : Form
  pub places : Hello → Fields
  pub version : Fields → ℕ
  pub reading : List ℕ → Reading
  pub answer : Reading → Result Fields Refusal
  pub reads : (m : List ℕ) → read_as form m ≡ reading m
  pub placed : (f : Hello) → version (places f) ≡ f.version
  pub on_fields : (f : Hello) → Ok (places f) ≡ answer (fields f)
  pub on_fault : (n p : ℕ) → Err (refusal_at n p) ≡ answer (fault n p)

unfoldable pub client_reader : Reader
unfolding read_client client_places client_answer
client_reader =
    record {
      Fields = ClientHello;
      form = client_form;
      places = client_places client_form.start;
      version = λ h. h.version;
      reading = read_client;
      answer = client_answer;
      reads = λ m. refl;
      placed = λ f. refl;
      on_fields = λ f. refl;
      on_fault = λ n p. refl;
    }

unfoldable pub server_reader : Reader
unfolding read_server server_places server_answer
server_reader =
    record {
      Fields = ServerHello;
      form = server_form;
      places = server_places server_form.start;
      version = λ h. h.version;
      reading = read_server;
      answer = server_answer;
      reads = λ m. refl;
      placed = λ f. refl;
      on_fields = λ f. refl;
      on_fault = λ n p. refl;
    }

fault_of : (e : Fault) (p : Parse Hello) → (e.number ≡ 0 → ⊥) → reading_of e p ≡ fault e.number e.place
fault_of e (malformed q) z = refl
fault_of e (parsed f) z = rw (ne_eqb e.number 0 z)

-- what a search for a repeat says
repeats : (i : ℕ) (r : Reason) (es : List Extension) → differ_from i es ≡ Err r → (twice es ≡ true) × (r ≡ reason.Repeated (repeat_at i es))
unfolding differ_from
repeats i r es e =
    by_test (twice es)
    (λ t. (t, let z : Err (reason.Repeated (repeat_at i es)) ≡ Err r = rw t at e in cc))
    (λ t. let z : Ok tt ≡ Err r = rw t at e in cc)

differs : (i : ℕ) (u : ⊤) (es : List Extension) → differ_from i es ≡ Ok u → twice es ≡ false
unfolding differ_from
differs i u es e =
    by_test (twice es)
    (λ t. let z : Err (reason.Repeated (repeat_at i es)) ≡ Ok u = rw t at e in cc)
    (λ t. t)

module _ (R : Reader) (m : List ℕ) where
  abbrev Refuses : Reason → Type 0
  Refuses x = refused (Err x) ≡ R.answer (R.reading m)

  refuses : (e : Fault) (x : Reason) → hello_fault R.form m ≡ e → (e.number ≡ 0 → ⊥) → refusal_for x ≡ refusal_at e.number e.place → Refuses x
  refuses e x h z q =
      ap Err q ∙ R.on_fault e.number e.place
      ∙ ap R.answer (sym (fault_of e (laid_out R.form m) z) ∙ ap (λ (y : Fault). reading_of y (laid_out R.form m)) (sym h) ∙ R.reads m)

  abbrev at : ℕ → ℕ → Fault
  at n p = record { number = n; place = p }

  -- the header was not read, or the message is of another type
  pub out_frame : (r : Reason) → refused (Err r) ≡ framed_as R.form.kind m → Refuses r
  unfolding hello_fault
  out_frame r e =
      let l = as_refused m R.form.kind (refusal_for r) (sym e) in
      refuses (first_fault (header_tests R.form.kind m)) r (fault_front (header_tests R.form.kind m) _ l.1) l.1 l.0

  -- it was, and it is of this one
  pub record Typed : Type 0 where
    pub short : overlong m ≡ false
    pub stated : misstated m ≡ false
    pub kind : other_kind R.form.kind m ≡ false
    pub shortest : 4 ≤ length m

  pub typed : (h : Header) → refused (Ok h) ≡ framed_as R.form.kind m → Typed
  typed h e =
      let l = as_whole m R.form.kind h (sym e) in
      record { short = l.1.short; stated = l.1.stated; kind = l.0; shortest = l.1.shortest }

  pub out_malformed : (x : Reason) → Typed → Broken (laid_out R.form m) x → Refuses x
  unfolding hello_fault first_fault
  out_malformed x t b = refuses (at 1 b.0) x (rw (t.short, t.stated, t.kind, b.1)) (λ z. omega arith) (rw b.2 refl)

  -- it was laid out, with these fields; r is what was found of a repeat in the list of its extensions, from place i on
  module _ (t : Typed) {h : R.Fields} {f : Hello} {i : ℕ} {es : List Extension} (l : laid_out R.form m ≡ parsed f) (p : h ≡ R.places f) (s : es ≡ f.extensions) (place : i ≡ R.form.list R.form.start f) where
    judged : R.form.wrong (R.version h) ≡ R.form.wrong f.version
    judged = ap R.form.wrong (ap R.version p ∙ R.placed f)

    pub out_twice : (r : Reason) → differ_from i es ≡ Err r → Refuses r
    unfolding hello_fault first_fault
    out_twice r e =
        let d = repeats i r es e in
        let p = repeat_at (R.form.list R.form.start f) f.extensions in
        let found : r ≡ reason.Repeated p = d.1 ∙ ap reason.Repeated (ap₂ repeat_at place s) in
        refuses (at 2 p) r (rw (t.short, t.stated, t.kind, l, ap twice (sym s) ∙ d.0) refl) (λ z. omega arith) (ap refusal_for found)

    once : (u : ⊤) → differ_from i es ≡ Ok u → twice f.extensions ≡ false
    once u e = ap twice (sym s) ∙ differs i u es e

    pub out_version : (u : ⊤) → differ_from i es ≡ Ok u → R.form.wrong (R.version h) ≡ true → Refuses reason.Version
    unfolding hello_fault first_fault
    out_version u y v = refuses (at 3 0) reason.Version (rw (t.short, t.stated, t.kind, l, once u y, sym judged ∙ v)) (λ z. omega arith) refl

    pub out_fields : (u : ⊤) → differ_from i es ≡ Ok u → R.form.wrong (R.version h) ≡ false → refused (Ok h) ≡ R.answer (R.reading m)
    unfolding hello_fault first_fault
    out_fields u y v =
        ap Ok p ∙ R.on_fields f
        ∙ ap R.answer (sym (rw (t.short, t.stated, t.kind, l, once u y, sym judged ∙ v)) ∙ R.reads m)
