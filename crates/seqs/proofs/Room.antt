-- Room for n bytes behind s others, asked without a sum that could overflow.
-- Assumes nothing.
use mathlib.Core.Path.{◌≡◌, refl, sym, ◌∙◌}
use mathlib.Core.Bool.{Bool, true, false}
use Prim.Native.Nat.{ℕ, ◌+◌, ◌-◌, ◌≤◌}
use native.Mathlib.Omega.{arith}
use borrow.Author.Tests.{lt-ltb, le-ltb, ltb-true, ltb-false, le-leb, lt-leb, leb-true, leb-false}
use lib.Dec.{leb, ltb}

by_test : (most s n : ℕ) (b : Bool) → s ≤ most → ltb (most - s) n ≡ b → ltb (most - s) n ≡ ltb most (s + n)
by_test most s n true h e = e ∙ sym (lt-ltb most (s + n) (omega (arith, ltb-true (most - s) n e)))
by_test most s n false h e = e ∙ sym (le-ltb most (s + n) (omega (arith, ltb-false (most - s) n e)))

pub room : (most s n : ℕ) → s ≤ most → ltb (most - s) n ≡ ltb most (s + n)
room most s n h = by_test most s n (ltb (most - s) n) h refl

three_by_test : (most x y z : ℕ) (b : Bool) → x + y ≤ most → leb z (most - x - y) ≡ b → leb z (most - x - y) ≡ leb (x + (y + z)) most
three_by_test most x y z true h e = e ∙ sym (le-leb (x + (y + z)) most (omega (arith, leb-true z (most - x - y) e)))
three_by_test most x y z false h e = e ∙ sym (lt-leb (x + (y + z)) most (omega (arith, leb-false z (most - x - y) e)))

-- and room for three pieces
pub room_three : (most x y z : ℕ) → x + y ≤ most → leb z (most - x - y) ≡ leb (x + (y + z)) most
room_three most x y z h = three_by_test most x y z (leb z (most - x - y)) h refl
