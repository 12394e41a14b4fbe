-- The fields of a hello, one after the other: each way out of the readers as a law on the parts that were taken.
-- Assumes nothing.
use mathlib.Core.Path.{◌≡◌, refl, sym, ◌∙◌, ap, ap₂}
use mathlib.Core.Bool.{Bool}
use mathlib.Core.List.{List}
use Prim.Native.Nat.{ℕ, ◌+◌, ◌-◌, ◌%◌, ◌≤◌, ◌<◌}
use native.Mathlib.Nat.{add-zero}
use native.Mathlib.Omega.{arith}
use lib.Dec.{leb}
use lib.ListN.{length, take, drop, length-drop}
use lib.Seq.{drop-drop}
use borrow.Author.Tests.{eq-eqb, ne_eqb, leb-true, leb-false}
use Rattle.seqs.specs.Flag.{bit}
use Rattle.seqs.specs.Cases.{by_test}
use Rattle.std.specs.Prelude.{Result, Ok, Err}
use Rattle.std.specs.Int.{from_bool}
use Rattle.refusal.specs.declared.Reason.{Reason}
use Rattle.refusal.specs.declared.Reason.TheVariants as reason
use Rattle.message.specs.Numbers.{byte_at, pair_at}
use Rattle.hello.specs.Layout.{Parse, malformed, Left, from, big, field, vector}
use Rattle.hello.specs.Extensions.{Extension}
use Rattle.hello.specs.Fields.{Hello, opening, list_place, client_layout, server_layout, signal_in}
use Rattle.hello.specs.Places.{part, behind, extensions_at, client_places, server_places}
use Rattle.hello.specs.Cuts.{BrokenField, Cuts, Opens, Blocks, Broken, ClientLays, ServerLays, list_at}
use Rattle.hello.specs.declared.parts.Part.{Part}
use Rattle.hello.specs.declared.parts.Extensions.{Extensions}
use Rattle.hello.specs.declared.client.ClientHello.{ClientHello}
use Rattle.hello.specs.declared.server.ServerHello.{ServerHello}
use Rattle.hello.proofs.Vectors.{field_yes, field_cut, byte_drop, big_one}
use Rattle.hello.proofs.Lists.{big_at, size_of_lem}
use Rattle.hello.proofs.Flags.{flagged}

-- version and random have known lengths
module _ (m : List ℕ) (start : ℕ) (k : start ≤ length m) where
  opened : (then : List ℕ → List ℕ → List ℕ → Left → Parse Hello) → start + 34 ≤ length m
      → opening (from m start) then ≡ vector 1 0 32 (from m (start + 34)) (λ identifier l. then (take 2 (drop start m)) (take 32 (drop (start + 2) m)) identifier l)
  unfolding opening
  opened then h =
      let e : start + 2 + 32 ≡ start + 34 = omega arith in
      field_yes _ 2 (from m start) (rw length-drop (omega arith))
      ∙ (rw drop-drop (field_yes _ 32 (from m (start + 2)) (rw length-drop (omega arith)) ∙ (rw (drop-drop, e))))

  pub opens_short : length m < start + 34 → BrokenField (opening (from m start)) (reason.Malformed (length m))
  unfolding opening
  opens_short h = (length m, short, refl)
    where
      short : (then : List ℕ → List ℕ → List ℕ → Left → Parse Hello) → opening (from m start) then ≡ malformed (length m)
      short then =
          by_test (leb 2 (length m - start))
          (λ p.
          field_yes _ 2 (from m start) (rw length-drop (leb-true _ _ p))
          ∙ (rw drop-drop (field_cut _ 32 m (start + 2) (omega (arith, leb-true 2 (length m - start) p)) (omega arith))))
          (λ p. field_cut _ 2 m start k (leb-false _ _ p))

  pub opens_then : (r : Result Part Reason) → start + 34 ≤ length m → Cuts m (start + 34 + 1) (vector 1 0 32 (from m (start + 34))) r → Opens m start r
  opens_then (Err x) h v = (v.0, λ then. opened then h ∙ v.1 _, v.2)
  opens_then (Ok p) h v = (omega (arith, v.0), v.1, λ then. opened then h ∙ v.2 _)

part_is : (p : Part) (a n : ℕ) → p.at ≡ a → p.length ≡ n → p ≡ part a n
part_is p a n h k = ap₂ part h k

-- the list of extensions that a block was read to
place_of : (m : List ℕ) (at : ℕ) (x : Extensions) (b : Blocks m at (Ok x)) → x.list.at ≡ list_place b.0 at
unfolding extensions_at
place_of m at x b = ap (λ (y : Extensions). y.list.at) b.3

same_client : {v v' g g' : ℕ} {r i i' s s' t t' : Part} {x x' : Extensions} → v ≡ v' → i ≡ i' → s ≡ s' → t ≡ t' → g ≡ g' → x ≡ x'
    → ◌≡◌ {A = ClientHello} (record { version = v; random = r; identifier = i; suites = s; methods = t; signal = g; extensions = x })
    (record { version = v'; random = r; identifier = i'; suites = s'; methods = t'; signal = g'; extensions = x' })
same_client e₀ e₁ e₂ e₃ e₄ e₅ = rw (e₀, e₁, e₂, e₃, e₄, e₅)

same_server : {v v' s s' t t' : ℕ} {r i i' : Part} {x x' : Extensions} → v ≡ v' → i ≡ i' → s ≡ s' → t ≡ t' → x ≡ x'
    → ◌≡◌ {A = ServerHello} (record { version = v; random = r; identifier = i; suite = s; compression = t; extensions = x })
    (record { version = v'; random = r; identifier = i'; suite = s'; compression = t'; extensions = x' })
same_server e₀ e₁ e₂ e₃ e₄ = rw (e₀, e₁, e₂, e₃, e₄)

-- a ClientHello, field by field
module _ (m : List ℕ) (start : ℕ) where
  pub client_1 : (r : Reason) → Opens m start (Err r) → Broken (client_layout (from m start)) r
  unfolding client_layout
  client_1 r o = (o.0, o.1 _, o.2)

  module _ (i : Part) (o : Opens m start (Ok i)) where
    pub client_2 : (r : Reason) → Cuts m (behind i + 2) (vector 2 2 65534 (from m (behind i))) (Err r) → Broken (client_layout (from m start)) r
    unfolding client_layout
    client_2 r v = (v.0, o.2 _ ∙ v.1 _, v.2)

    module _ (s : Part) (v : Cuts m (behind i + 2) (vector 2 2 65534 (from m (behind i))) (Ok s)) where
      size_s : length (take s.length (drop s.at m)) ≡ s.length
      size_s = size_of_lem m s.at s.length v.1

      pub client_3 : (s.length % 2 ≡ 0 → ⊥) → Broken (client_layout (from m start)) (reason.Malformed (behind i))
      unfolding client_layout
      client_3 d = (behind i, o.2 _ ∙ v.2 _ ∙ (rw (size_s, ne_eqb (s.length % 2) 0 d)), refl)

      module _ (even : s.length % 2 ≡ 0) where
        pub client_4 : (r : Reason) → Cuts m (behind s + 1) (vector 1 1 255 (from m (behind s))) (Err r) → Broken (client_layout (from m start)) r
        unfolding client_layout
        client_4 r w = (w.0, o.2 _ ∙ v.2 _ ∙ (rw (size_s, eq-eqb (s.length % 2) 0 even) (w.1 _)), w.2)

        module _ (t : Part) (w : Cuts m (behind s + 1) (vector 1 1 255 (from m (behind s))) (Ok t)) where
          pub client_5 : (r : Reason) → Blocks m (behind t) (Err r) → Broken (client_layout (from m start)) r
          unfolding client_layout
          client_5 r b = (b.0, o.2 _ ∙ v.2 _ ∙ (rw (size_s, eq-eqb (s.length % 2) 0 even) (w.2 _ ∙ b.1 _)), b.2)

          -- the fields of a ClientHello that was laid out
          abbrev fields_of : Bool → List Extension → Hello
          fields_of b es =
              record {
                version = big (take 2 (drop start m));
                random = take 32 (drop (start + 2) m);
                identifier = take i.length (drop i.at m);
                suites = take s.length (drop s.at m);
                methods = take t.length (drop t.at m);
                block = b;
                extensions = es;
              }

          pub client_yes : (x : Extensions) → Blocks m (behind t) (Ok x) → (version : ℕ) → version ≡ pair_at m start
              → {f : ℕ} {g : Bool} → g ≡ signal_in (take s.length (drop s.at m)) → f ≡ from_bool g
              → ClientLays m start (Ok (record { version = version; random = part (start + 2) 32; identifier = i; suites = s; methods = t; signal = f; extensions = x }))
          unfolding client_layout client_places
          client_yes x b version e g f =
              let l : length (take i.length (drop i.at m)) ≡ i.length = size_of_lem m i.at i.length o.1 in
              let n : length (take t.length (drop t.at m)) ≡ t.length = size_of_lem m t.at t.length w.1 in
              let q : behind t ≡ start + 35 + length (take i.length (drop i.at m)) + 2 + length (take s.length (drop s.at m)) + 1 + length (take t.length (drop t.at m)) = omega (arith, l, size_s, n, o.0, v.0, w.0) in (
                fields_of b.0 (list_at m (list_place b.0 (behind t))),
                o.2 _ ∙ v.2 _ ∙ (rw (size_s, eq-eqb (s.length % 2) 0 even) (w.2 _ ∙ b.4 _)),
                same_client
                    (e ∙ sym (big_at m start (omega (arith, o.0, o.1))))
                    (part_is i _ _ o.0 (sym l))
                    (part_is s _ _ (omega (arith, l, o.0, v.0)) (sym size_s))
                    (part_is t _ _ (omega (arith, l, size_s, o.0, v.0, w.0)) (sym n))
                    (f ∙ flagged _ ∙ ap bit g)
                    (b.3 ∙ ap (λ (k : ℕ). extensions_at b.0 (list_place b.0 k) (list_at m (list_place b.0 (behind t)))) q),
                rw (place_of m (behind t) x b) (b.1, b.2, refl, ap (list_place b.0) q),
              )

-- a ServerHello
module _ (m : List ℕ) (start : ℕ) where
  pub server_1 : (r : Reason) → Opens m start (Err r) → Broken (server_layout (from m start)) r
  unfolding server_layout
  server_1 r o = (o.0, o.1 _, o.2)

  module _ (i : Part) (o : Opens m start (Ok i)) where
    short : length m - behind i < 3 → server_layout (from m start) ≡ malformed (length m)
    unfolding server_layout
    short h =
        o.2 _
        ∙ by_test (leb 2 (length m - behind i))
        (λ p.
        field_yes _ 2 (from m (behind i)) (rw length-drop (leb-true _ _ p))
        ∙ (rw drop-drop (field_cut _ 1 m (behind i + 2) (omega (arith, leb-true 2 (length m - behind i) p)) (omega arith))))
        (λ p. field_cut _ 2 m (behind i) o.1 (leb-false _ _ p))

    pub server_2 : length m - behind i < 3 → Broken (server_layout (from m start)) (reason.Malformed (length m))
    server_2 h = (length m, short h, refl)

    module _ (h : behind i + 3 ≤ length m) where
      to_block : (then : List ℕ → List ℕ → Left → Parse Hello)
          → field 2 (from m (behind i)) (λ suites l₂. field 1 l₂ (λ methods l₃. then suites methods l₃))
          ≡ then (take 2 (drop (behind i) m)) (take 1 (drop (behind i + 2) m)) (from m (behind i + 3))
      to_block then =
          let e : behind i + 2 + 1 ≡ behind i + 3 = omega arith in
          field_yes _ 2 (from m (behind i)) (rw length-drop (omega arith))
          ∙ (rw drop-drop (field_yes _ 1 (from m (behind i + 2)) (rw length-drop (omega arith)) ∙ (rw (drop-drop, e))))

      pub server_3 : (r : Reason) → Blocks m (behind i + 3) (Err r) → Broken (server_layout (from m start)) r
      unfolding server_layout
      server_3 r b = (b.0, o.2 _ ∙ to_block _ ∙ b.1 _, b.2)

      pub server_yes : (x : Extensions) → Blocks m (behind i + 3) (Ok x) → (version suite compression : ℕ)
          → version ≡ pair_at m start → suite ≡ pair_at m (behind i) → compression ≡ byte_at m (behind i + 2)
          → ServerLays m start (Ok (record { version = version; random = part (start + 2) 32; identifier = i; suite = suite; compression = compression; extensions = x }))
      unfolding server_layout server_places
      server_yes x b version suite compression e₀ e₁ e₂ =
          let l : length (take i.length (drop i.at m)) ≡ i.length = size_of_lem m i.at i.length o.1 in
          let q : behind i + 3 ≡ start + 35 + length (take i.length (drop i.at m)) + 3 = omega (arith, l, o.0) in (
            record {
              version = big (take 2 (drop start m));
              random = take 32 (drop (start + 2) m);
              identifier = take i.length (drop i.at m);
              suites = take 2 (drop (behind i) m);
              methods = take 1 (drop (behind i + 2) m);
              block = b.0;
              extensions = list_at m (list_place b.0 (behind i + 3));
            },
            o.2 _ ∙ to_block _ ∙ b.4 _,
            same_server
                (e₀ ∙ sym (big_at m start (omega (arith, o.0, o.1))))
                (part_is i _ _ o.0 (sym l))
                (e₁ ∙ sym (big_at m (behind i) (omega arith)))
                (e₂ ∙ sym (big_one (drop (behind i + 2) m) (rw length-drop (omega arith)) ∙ byte_drop m (behind i + 2) 0 ∙ ap (byte_at m) (add-zero (behind i + 2))))
                (b.3 ∙ ap (λ (k : ℕ). extensions_at b.0 (list_place b.0 k) (list_at m (list_place b.0 (behind i + 3)))) q),
            rw (place_of m (behind i + 3) x b) (b.1, b.2, refl, ap (list_place b.0) q),
          )
