-- A row and its session: the bytes of a row are put and read as the session has them.
-- Assumes nothing.
use mathlib.Core.Path.{◌≡◌, refl}
use mathlib.Core.Bool.{Bool, true, false}
use mathlib.Core.List.{List, [], ◌∷◌, ◌++◌}
use Prim.Native.Nat.{ℕ, ◌/◌, ◌%◌, ◌≤◌}
use lib.ListN.{length, take, drop, replicate}
use borrow.Author.Tests.{eq-eqb}
use Rattle.seqs.proofs.Zeros.{drop-zeros}
use Rattle.seqs.specs.Flag.{bit}
use Rattle.std.specs.Int.{from_bool}
use Rattle.octets.specs.Same.{same}
use Rattle.sessions.specs.Book.{is_name, is_named}
use Rattle.sessions.specs.Keeps.{row_of, session_of}
use Rattle.sessions.specs.declared.row.Row.{Row}

-- a flag as we write it
pub from_bool_is : (e : Bool) → from_bool e ≡ bit e
from_bool_is true = refl
from_bool_is false = refl

-- a row that was put together: the identifier over zeros
pub row_is : (a f : ℕ) (e : Bool) (u : ℕ) (v i s n k : List ℕ) → f ≡ from_bool e → v ≡ (u / 256) ∷ (u % 256) ∷ [] → n ≡ i ++ drop (length i) (replicate 32 0) → length i ≤ 32 → k ≡ s
    → ◌≡◌ {A = Row} (record { ems = f; size = length i; suite = v; identifier = n; secret = k }) (row_of (record { axle = a; identifier = i; ems = e; suite = u; secret = s }))
unfolding row_of
row_is a f e u v i s n k p w q h r = rw (p, w, q, r, drop-zeros (length i) 32, from_bool_is e)

-- by the bytes of its own name
pub named_is : (a : ℕ) (i : List ℕ) (r : Row) → is_named a i (session_of a r) ≡ same (take r.size r.identifier) i
unfolding is_named is_name session_of
named_is a i r = rw (eq-eqb a a refl)
