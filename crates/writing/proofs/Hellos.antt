-- The two hellos: how many bytes each has, and its fields put behind each other.
-- Assumes nothing.
use mathlib.Core.Path.{◌≡◌, refl, ◌∙◌, ap}
use mathlib.Core.Bool.{Bool, true, false, not, ◌||◌}
use mathlib.Core.List.{List, ◌∷◌, ◌++◌}
use Prim.Native.Nat.{ℕ, ◌+◌, ◌-◌, ◌%◌, ◌≤◌}
use native.Mathlib.Omega.{arith}
use lib.Dec.{ltb, eqb}
use lib.ListN.{length, drop, length-append}
use Rattle.seqs.specs.Cases.{or_left, or_right}
use Rattle.hello.specs.Fields.{Hello, wrong_client_version, wrong_server_version}
use Rattle.hello.specs.Written.{two_bytes}
use Rattle.writing.specs.Messages.{three_bytes, message_of, vector8, vector16, opening_bytes, closing_bytes, client_bytes, server_bytes}
use Rattle.writing.specs.Promise.{opening_outside, client_outside, server_outside, client_of, server_of}
use Rattle.octets.specs.Placed.{placed}
use Rattle.writing.specs.Steps.{opens_outside, lists_outside}
use Rattle.octets.proofs.Placing.{placed_more, placed_front}
use Rattle.writing.proofs.Sizing.{opens_bound, offers_bound}
use Rattle.writing.proofs.Writers.{Counts, closing_long}

-- tests taken together
regroup : (o a b c d e : Bool) → (o || (a || b || c || d || e)) ≡ (o || a || b || c || d || e)
regroup true a b c d e = refl
regroup false a b c d e = refl

nothing_more : (o : Bool) → o ≡ (o || false || false)
nothing_more true = refl
nothing_more false = refl

-- how many bytes the fields up to the extension block have
opening_long : (f : Hello) → length (opening_bytes f) ≡ 3 + length f.random + length f.identifier
opening_long f =
    omega
    (arith, length-append (two_bytes f.version ++ f.random) (vector8 f.identifier), length-append (two_bytes f.version) f.random)

client_front : (f : Hello) → length (opening_bytes f ++ vector16 f.suites ++ vector8 f.methods) ≡ 6 + length f.random + length f.identifier + length f.suites + length f.methods
client_front f =
    omega
    (arith, opening_long f, length-append (opening_bytes f) (vector16 f.suites), length-append (opening_bytes f ++ vector16 f.suites) (vector8 f.methods))

server_front : (f : Hello) → length (opening_bytes f ++ f.suites ++ f.methods) ≡ 3 + length f.random + length f.identifier + length f.suites + length f.methods
server_front f =
    omega
    (arith, opening_long f, length-append (opening_bytes f) f.suites, length-append (opening_bytes f ++ f.suites) f.methods)

client_long : (f : Hello) → length (client_bytes f) ≡ 10 + length f.random + length f.identifier + length f.suites + length f.methods + length (closing_bytes f)
unfolding client_bytes
client_long f = omega (arith, client_front f, length-append (opening_bytes f ++ vector16 f.suites ++ vector8 f.methods) (closing_bytes f))

server_long : (f : Hello) → length (server_bytes f) ≡ 7 + length f.random + length f.identifier + length f.suites + length f.methods + length (closing_bytes f)
unfolding server_bytes
server_long f = omega (arith, server_front f, length-append (opening_bytes f ++ f.suites ++ f.methods) (closing_bytes f))

module _ (v : ℕ) (r i s m : List ℕ) (block : Bool) (ts ns d : List ℕ) where
  abbrev hello : Hello
  hello = client_of v r i s m block ts ns d

  pub client_counts : Counts client_outside client_bytes wrong_client_version hello ts ns d (42 + length i + length s + length m) (opens_outside (length r) (length i) || lists_outside (length s) (length m))
  unfolding client_outside opening_outside opens_outside lists_outside
  client_counts =
      record {
        list = refl;
        fields = regroup (opens_outside (length r) (length i)) (ltb (length s) 2) (ltb 65534 (length s)) (not (eqb (length s % 2) 0)) (ltb (length m) 1) (ltb 255 (length m));
        long = λ fits p. omega (arith, client_long hello, closing_long block ts ns d fits, (opens_bound (length r) (length i) (or_left _ (lists_outside (length s) (length m)) p)).0);
      }

module _ (v : ℕ) (r i : List ℕ) (suite compression : ℕ) (block : Bool) (ts ns d : List ℕ) where
  abbrev reply : Hello
  reply = server_of v r i suite compression block ts ns d

  pub server_counts : Counts server_outside server_bytes wrong_server_version reply ts ns d (42 + length i) (opens_outside (length r) (length i))
  unfolding server_outside opening_outside opens_outside
  server_counts =
      record {
        list = refl;
        fields = nothing_more (opens_outside (length r) (length i));
        long = λ fits p. omega (arith, server_long reply, closing_long block ts ns d fits, (opens_bound (length r) (length i) p).0);
      }

-- the bounds that the code needs where it writes
pub client_bound : (r i s m : ℕ) → (opens_outside r i || lists_outside s m) ≡ false → (r ≡ 32) × (i ≤ 32) × (m ≤ 255)
client_bound r i s m h =
    let o = opens_bound r i (or_left _ (lists_outside s m) h) in
    (o.0, o.1, (offers_bound s m (or_right (opens_outside r i) _ h)).1)

-- the fields put behind each other, each where the last one ended, are the message: x and y are what stands between identifier and
-- extension block
abbrev begun : Hello → ℕ → ℕ → List ℕ
begun f kind size = (kind ∷ three_bytes (size - 4)) ++ two_bytes f.version ++ f.random ++ vector8 f.identifier

pub message_placed : (f : Hello) (kind : ℕ) (x y o : List ℕ) {o₁ o₂ o₃ o₄ : List ℕ} (size a₁ a₂ a₃ : ℕ)
    → size ≡ length (message_of kind (opening_bytes f ++ x ++ y ++ closing_bytes f)) → size ≤ length o
    → a₁ ≡ 7 + length f.random + length f.identifier → a₂ ≡ a₁ + length x → a₃ ≡ a₂ + length y
    → o₁ ≡ placed o 0 (begun f kind size) → o₂ ≡ placed o₁ a₁ x → o₃ ≡ placed o₂ a₂ y → o₄ ≡ placed o₃ a₃ (closing_bytes f)
    → o₄ ≡ message_of kind (opening_bytes f ++ x ++ y ++ closing_bytes f) ++ drop (length (message_of kind (opening_bytes f ++ x ++ y ++ closing_bytes f))) o
message_placed f kind x y o size a₁ a₂ a₃ s l e₁ e₂ e₃ p₁ p₂ p₃ p₄ =
    let b = begun f kind size in
    let body = opening_bytes f ++ x ++ y ++ closing_bytes f in
    let n₁ = opening_long f in
    let n₂ = length-append (opening_bytes f) x in
    let n₃ = length-append (opening_bytes f ++ x) y in
    let n₄ = length-append (opening_bytes f ++ x ++ y) (closing_bytes f) in
    let k : size - 4 ≡ length body = omega (arith, s) in
    let w₂ = placed_more o 0 a₁ b x (omega (arith, n₁, n₂, n₃, n₄)) (omega (arith, n₁)) p₁ p₂ in
    let w₃ = placed_more o 0 a₂ (b ++ x) y (omega (arith, n₁, n₂, n₃, n₄)) (omega (arith, n₁, n₂)) w₂ p₃ in
    let w₄ = placed_more o 0 a₃ (b ++ x ++ y) (closing_bytes f) (omega (arith, n₁, n₂, n₃, n₄)) (omega (arith, n₁, n₂, n₃)) w₃ p₄ in
    w₄ ∙ ap (λ (n : ℕ). placed o 0 (kind ∷ (three_bytes n ++ body))) k ∙ placed_front o (message_of kind body)
