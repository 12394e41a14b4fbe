-- The renegotiation indication: each way out of the helpers as a law on the record's flags and on RI.
-- Assumes nothing.
use mathlib.Core.Path.{◌≡◌, refl, sym}
use mathlib.Core.Bool.{Bool, true, false, not, ◌&&◌}
use mathlib.Core.List.{List, [], ◌∷◌, ◌++◌}
use mathlib.Core.Option.{Option, none, some}
use Prim.Native.Nat.{ℕ, suc}
use lib.Dec.{eqb}
use lib.ListN.{length}
use borrow.Author.Tests.{eq-eqb, ne_eqb}
use native.Mathlib.Omega.{arith}
use Rattle.seqs.specs.Pick.{pick}
use Rattle.seqs.specs.Flag.{yes}
use Rattle.refusal.specs.First.{first_of}
use Rattle.refusal.specs.Table.{placed}
use Rattle.octets.specs.Same.{same}
use Rattle.seqs.specs.Cases.{by_test}
use Rattle.decision.specs.Connection.{closed, required, saying, wrong_first}
use Rattle.decision.specs.Server.{server_wrong}
use Rattle.decision.specs.Client.{client_wrong}
use Rattle.decision.specs.Steps.{server_indication, client_indication}
use Rattle.decision.specs.declared.connection.Connection.{Connection}
use Rattle.decision.specs.declared.connection.Switches.{Switches}

pub same_nil : (l : List ℕ) → same l [] ≡ eqb (length l) 0
unfolding same
same_nil [] = refl
same_nil (x ∷ l) = sym (ne_eqb (suc (length l)) 0 (λ z. omega arith))

-- a flag's byte
pub is_yes : (n : ℕ) → (n ≡ 0 → ⊥) → yes n ≡ true
is_yes n h = rw (ne_eqb n 0 h)

pub is_no : (n : ℕ) → n ≡ 0 → yes n ≡ false
is_no n h = rw (eq-eqb n 0 h)

open_first : (c : Connection) → c.completed ≡ 0 → closed c ≡ false
unfolding closed
open_first c h = rw (eq-eqb c.completed 0 h)

-- in a first handshake
pub first_ri : (s : Switches) (signal : Bool) (bytes : List ℕ) → not (eqb (length bytes) 0) ≡ wrong_first s signal (some bytes)
unfolding wrong_first
first_ri s signal bytes = rw same_nil

pub first_none : (s : Switches) (signal : Bool) → (not signal && required s) ≡ wrong_first s signal none
unfolding wrong_first
first_none s signal = refl

turned : (w : Bool) → ◌≡◌ {A = ℕ} (pick (not w) 5 0) (pick w 0 5)
turned true = refl
turned false = refl

module _ (c : Connection) (s : Switches) (ri : Option (List ℕ)) where
  pub server_first : (signal : Bool) → c.completed ≡ 0 → server_indication c s signal ri ≡ pick (wrong_first s signal ri) 5 0
  unfolding server_indication server_wrong first_of
  server_first signal h = rw (open_first c h, eq-eqb c.completed 0 h)

  pub server_closed : (signal : Bool) → closed c ≡ true → server_indication c s signal ri ≡ 9
  unfolding server_indication server_wrong first_of
  server_closed signal h = rw h

  pub server_signal : (signal : Bool) → (c.completed ≡ 0 → ⊥) → closed c ≡ false → signal ≡ true → server_indication c s signal ri ≡ 5
  unfolding server_indication server_wrong first_of
  server_signal signal h k e = rw (k, ne_eqb c.completed 0 h, e)

  pub server_later : (signal : Bool) → (c.completed ≡ 0 → ⊥) → closed c ≡ false → signal ≡ false
      → server_indication c s signal ri ≡ pick (saying c.client ri) 0 5
  unfolding server_indication server_wrong first_of
  server_later signal h k e = rw (k, ne_eqb c.completed 0 h, e) (turned (saying c.client ri))

  pub client_first : c.completed ≡ 0 → client_indication c s ri ≡ pick (wrong_first s false ri) 5 0
  unfolding client_indication client_wrong first_of
  client_first h = rw (open_first c h, eq-eqb c.completed 0 h)

  pub client_closed : closed c ≡ true → client_indication c s ri ≡ 7
  unfolding client_indication client_wrong first_of
  client_closed h = rw h

  pub client_later : (c.completed ≡ 0 → ⊥) → closed c ≡ false → client_indication c s ri ≡ pick (saying (c.client ++ c.server) ri) 0 5
  unfolding client_indication client_wrong first_of
  client_later h k = rw (k, ne_eqb c.completed 0 h) (turned (saying (c.client ++ c.server) ri))

  -- these numbers go with no place
  pub server_bare : (signal : Bool) → placed (server_indication c s signal ri) ≡ false
  unfolding server_indication first_of
  server_bare signal = by_test (closed c) (λ p. rw p) (λ p. by_test (server_wrong c s signal ri) (λ q. rw (p, q)) (λ q. rw (p, q)))

  pub client_bare : placed (client_indication c s ri) ≡ false
  unfolding client_indication first_of
  client_bare = by_test (closed c) (λ p. rw p) (λ p. by_test (client_wrong c s ri) (λ q. rw (p, q)) (λ q. rw (p, q)))
