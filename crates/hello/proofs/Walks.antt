-- The shape of an extension's data, as the test of it goes.
-- Assumes nothing.
use mathlib.Core.Path.{◌≡◌}
use mathlib.Core.Bool.{true}
use mathlib.Core.List.{List}
use Prim.Native.Nat.{ℕ, ◌+◌}
use lib.Dec.{eqb}
use lib.ListN.{length}
use borrow.Author.Tests.{eq-eqb, ne_eqb}
use Rattle.message.specs.Numbers.{byte_at}
use Rattle.hello.specs.Extensions.{ems_kind, ri_kind, shaped}

module _ (t : ℕ) (d : List ℕ) where
  pub shape_ems : t ≡ ems_kind → eqb (length d) 0 ≡ shaped t d
  unfolding shaped
  shape_ems e = rw (eq-eqb t ems_kind e)

  pub shape_ri : (b : ℕ) → b ≡ byte_at d 0 → (t ≡ ems_kind → ⊥) → t ≡ ri_kind → eqb (length d) (1 + b) ≡ shaped t d
  unfolding shaped
  shape_ri b f n e = rw (ne_eqb t ems_kind n, eq-eqb t ri_kind e, f)

  pub shape_other : (t ≡ ems_kind → ⊥) → (t ≡ ri_kind → ⊥) → true ≡ shaped t d
  unfolding shaped
  shape_other n e = rw (ne_eqb t ems_kind n, ne_eqb t ri_kind e)
