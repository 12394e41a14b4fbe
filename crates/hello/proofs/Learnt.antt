-- What specs/Learnt.antt says a caller learns of a hello that was read.
-- Assumes nothing.
use mathlib.Core.Path.{◌≡◌, refl, sym, ◌∙◌, ap}
use mathlib.Core.Bool.{Bool, true, false}
use mathlib.Core.List.{List, ◌++◌}
use Prim.Native.Nat.{ℕ, ◌+◌, ◌-◌, ◌≤◌}
use native.Mathlib.Omega.{arith}
use lib.Dec.{eqb}
use lib.ListN.{length, take, drop, length-drop}
use lib.Seq.{take_all}
use borrow.Author.Tests.{eqb-true, eqb-false, ltb-false, not-false}
use Rattle.seqs.specs.Flag.{bit}
use Rattle.seqs.specs.Cases.{by_test, not_both}
use Rattle.hello.specs.Layout.{Parse, malformed, parsed}
use Rattle.message.specs.Frame.{header_tests}
use Rattle.refusal.specs.First.{Fault}
use Rattle.refusal.specs.Table.{placed, refusal_at}
use Rattle.refusal.proofs.First.{first_zero, first_within, fault_number, fault_bare}
use Rattle.refusal.specs.declared.Refusal.{Refusal}
use Rattle.hello.specs.Extensions.{ri_kind}
use Rattle.hello.specs.Fields.{Hello, Reading, fields, fault, Form, client_form, server_form, laid_out, body_tests, hello_fault, is_malformed, reading_of, read_as, list_place, read_client, read_server}
use Rattle.hello.specs.Places.{size_of, bytes_part, extensions_at, client_places, server_places, client_answer, server_answer}
use Rattle.hello.specs.Cuts.{well_formed_at, list_at}
use Rattle.hello.specs.Learnt.{ExtensionsLearnt, ClientBounds, ServerBounds, ClientLearnt, ServerLearnt}
use Rattle.hello.specs.declared.client.ClientHello.{ClientHello}
use Rattle.std.specs.Prelude.{Ok, Err}
use Rattle.hello.specs.declared.server.ServerHello.{ServerHello}
use Rattle.hello.proofs.Lists.{size_of_lem}
use Rattle.hello.proofs.Closings.{list_size}
use Rattle.hello.proofs.Found.{points_at, ri_there, ri_not_there, ri_points, nowhere, ri_bounded}
use Rattle.hello.proofs.ListBytes.{list_bytes}
use Rattle.hello.proofs.Laid.{clean, client_parts, server_front, server_parts}

-- what is said of the extensions from place i of a message on
extensions_learnt : (m : List ℕ) (block : Bool) (i : ℕ) → i ≤ length m → well_formed_at m i ≡ true
    → ExtensionsLearnt m (extensions_at block i (list_at m i)) block (list_at m i)
unfolding extensions_at bytes_part
extensions_learnt m block i h w =
    let es = list_at m i in
    let s : size_of es ≡ length m - i = list_size m i h w in
    record {
      block = refl;
      list = rw (s, take_all (length m - i) (drop i m) (omega (arith, length-drop i m))) (list_bytes m i w);
      ends = rw s (omega arith);
      indicated = λ bytes e. ap bit (ri_there es bytes e);
      indication = λ bytes e. ri_points m i bytes h w e;
      absent = λ e. let n = ri_not_there es e in (ap bit n, ap bytes_part (nowhere ri_kind i es n));
      bounded = ri_bounded m i h w;
      ems = refl;
      others = refl;
    }

-- the places of the fields that were laid out
client_fields : (m : List ℕ) (h : ClientHello) (f : Hello) → read_client m ≡ fields f → h ≡ client_places 4 f → ClientLearnt m h
unfolding read_client client_places
client_fields m h f e q =
    let r = clean client_form m f e in
    let p = client_parts m f r.shortest r.laid in
    let l : length (take p.i (drop 39 m)) ≡ p.i = size_of_lem m 39 p.i (omega (arith, p.whole)) in
    let n : length (take p.s (drop (39 + p.i + 2) m)) ≡ p.s = size_of_lem m (39 + p.i + 2) p.s (omega (arith, p.whole)) in
    let k : length (take p.t (drop (39 + p.i + 2 + p.s + 1) m)) ≡ p.t = size_of_lem m (39 + p.i + 2 + p.s + 1) p.t p.whole in
    record {
      hello = f;
      reading = e;
      places = q;
      version = ap (λ (x : ClientHello). x.version) q;
      random = rw (q, p.is) (record { within = omega (arith, p.whole); is = refl });
      identifier = rw (q, p.is) (points_at m 39 p.i (omega (arith, p.whole)));
      suites = rw (q, p.is, l) (points_at m (39 + p.i + 2) p.s (omega (arith, p.whole)));
      methods = rw (q, p.is, l, n) (points_at m (39 + p.i + 2 + p.s + 1) p.t p.whole);
      signal = ap (λ (x : ClientHello). x.signal) q;
      extensions = rw (q, p.is, l, n, k) (extensions_learnt m p.b (list_place p.b (39 + p.i + 2 + p.s + 1 + p.t)) p.list p.formed);
      bounds = record {
        shortest = omega (arith, p.whole, p.suites_from, p.methods_from);
        longest = r.longest;
        version = ltb-false f.version 771 r.version;
        random = rw p.is (size_of_lem m 6 32 (omega (arith, p.whole)));
        identifier = rw (p.is, l) p.short;
        suites_from = rw (p.is, n) p.suites_from;
        suites_to = rw (p.is, n) p.suites_to;
        suites_even = rw (p.is, n) p.even;
        methods_from = rw (p.is, k) p.methods_from;
        methods_to = rw (p.is, k) p.methods_to;
        types_differ = r.differ;
      };
    }

server_fields : (m : List ℕ) (h : ServerHello) (f : Hello) → read_server m ≡ fields f → h ≡ server_places 4 f → ServerLearnt m h
unfolding read_server server_places
server_fields m h f e q =
    let r = clean server_form m f e in
    let g = server_front m f r.shortest r.laid in
    let p = server_parts m f g in
    let l : length (take g.i (drop 39 m)) ≡ g.i = size_of_lem m 39 g.i (omega (arith, g.whole)) in
    record {
      hello = f;
      reading = e;
      places = q;
      version = ap (λ (x : ServerHello). x.version) q;
      random = rw (q, p.is) (record { within = omega (arith, g.whole); is = refl });
      identifier = rw (q, p.is) (points_at m 39 g.i (omega (arith, g.whole)));
      suites = rw (q, p.is, l) (record { within = omega (arith, g.whole); is = refl });
      methods = rw (q, p.is, l) (record { within = omega (arith, g.whole); is = refl });
      suite = ap (λ (x : ServerHello). x.suite) q;
      compression = ap (λ (x : ServerHello). x.compression) q;
      extensions = rw (q, p.is, l) (extensions_learnt m p.b (list_place p.b (39 + g.i + 3)) p.list p.formed);
      bounds = record {
        shortest = omega (arith, g.whole);
        longest = r.longest;
        version = eqb-true f.version 771 (not-false _ r.version);
        random = rw p.is (size_of_lem m 6 32 (omega (arith, g.whole)));
        identifier = rw (p.is, l) g.short;
        suite = rw p.is (size_of_lem m (39 + g.i) 2 (omega (arith, g.whole)));
        compression = rw p.is (size_of_lem m (39 + g.i + 2) 1 (omega (arith, g.whole)));
        types_differ = r.differ;
      };
    }

pub client_bounds : (m : List ℕ) (f : Hello) → read_client m ≡ fields f → ClientBounds m f
unfolding client_fields
client_bounds m f e = (client_fields m (client_places 4 f) f e refl).bounds

pub server_bounds : (m : List ℕ) (f : Hello) → read_server m ≡ fields f → ServerBounds m f
unfolding server_fields
server_bounds m f e = (server_fields m (server_places 4 f) f e refl).bounds

-- from the answer of the reader
pub client_learnt : (m : List ℕ) (h : ClientHello) → Ok h ≡ client_answer (read_client m) → ClientLearnt m h
unfolding client_answer
client_learnt m h e = go (read_client m) refl e
  where
    go : (r : Reading) → read_client m ≡ r → Ok h ≡ client_answer r → ClientLearnt m h
    go (fields f) p q = client_fields m h f p (cc)
    go (fault n at) p q = let z : ◌≡◌ {A = ℕ} 0 1 = cc in absurd (omega arith)

pub server_learnt : (m : List ℕ) (h : ServerHello) → Ok h ≡ server_answer (read_server m) → ServerLearnt m h
unfolding server_answer
server_learnt m h e = go (read_server m) refl e
  where
    go : (r : Reading) → read_server m ≡ r → Ok h ≡ server_answer r → ServerLearnt m h
    go (fields f) p q = server_fields m h f p (cc)
    go (fault n at) p q = let z : ◌≡◌ {A = ℕ} 0 1 = cc in absurd (omega arith)

-- where it refused, number and place are the reading's
pub record Faulted (r : Reading) (x : Refusal) : Type 0 where
  pub number : ℕ
  pub place : ℕ
  pub reading : r ≡ fault number place
  pub refusal : x ≡ refusal_at number place
  pub some : number ≡ 0 → ⊥
  pub within : number ≤ 11
  -- 0 beside every number but 1 and 2
  pub bare : placed number ≡ false → place ≡ 0

-- the number of a reading without fields: of what is malformed it is not 0, and of fields 0 is none
pub fault_is : (e : Fault) (n at : ℕ) (p : Parse Hello) → reading_of e p ≡ fault n at → (e.number ≡ n) × (e.place ≡ at) × ((n ≡ 0) → is_malformed p ≡ true)
fault_is e n at (malformed q) h = (cc, cc, λ z. refl)
fault_is e n at (parsed f) h =
    by_test (eqb e.number 0)
    (λ t. let x : fields f ≡ fault n at = rw t at h in let y : ◌≡◌ {A = ℕ} 0 1 = cc in absurd (omega arith))
    (λ t.
    let x : fault e.number e.place ≡ fault n at = rw t at h in
    let y : e.number ≡ n = cc in
    (y, cc, λ z. absurd (eqb-false _ 0 t (y ∙ z))))

faulted : (k : Form) (m : List ℕ) (n at : ℕ) (x : Refusal) → read_as k m ≡ fault n at → x ≡ refusal_at n at → Faulted (read_as k m) x
unfolding hello_fault
faulted k m n at x e q =
    let tests = header_tests k.kind m ++ body_tests k (laid_out k m) in
    let d = fault_is (hello_fault k m) n at (laid_out k m) e in
    let c = sym (fault_number tests) ∙ d.0 in
    record {
      number = n;
      place = at;
      reading = e;
      refusal = q;
      some = λ z. let none = first_zero _ refl (c ∙ z) in not_both (d.2 z) none.1.1.1.0;
      within = rw (← c) (first_within _ refl);
      bare = λ z. sym d.1 ∙ fault_bare tests refl (ap placed d.0 ∙ z);
    }

pub client_fault : (m : List ℕ) (x : Refusal) → Err x ≡ client_answer (read_client m) → Faulted (read_client m) x
unfolding client_answer read_client
client_fault m x e = go (read_client m) refl e
  where
    go : (r : Reading) → read_client m ≡ r → Err x ≡ client_answer r → Faulted (read_client m) x
    go (fields f) p q = let z : ◌≡◌ {A = ℕ} 0 1 = cc in absurd (omega arith)
    go (fault n at) p q = faulted client_form m n at x p (cc)

pub server_fault : (m : List ℕ) (x : Refusal) → Err x ≡ server_answer (read_server m) → Faulted (read_server m) x
unfolding server_answer read_server
server_fault m x e = go (read_server m) refl e
  where
    go : (r : Reading) → read_server m ≡ r → Err x ≡ server_answer r → Faulted (read_server m) x
    go (fields f) p q = let z : ◌≡◌ {A = ℕ} 0 1 = cc in absurd (omega arith)
    go (fault n at) p q = faulted server_form m n at x p (cc)
