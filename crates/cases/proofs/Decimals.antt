-- The decimal digits of a number of one to five of them.
-- Assumes nothing.
use mathlib.Core.Path.{◌≡◌, ap}
use mathlib.Core.List.{[], ◌∷◌}
use Prim.Native.Nat.{ℕ, zero, suc, ◌+◌, ◌/◌, ◌%◌, ◌≤◌, ◌<◌}
use native.Mathlib.Omega.{arith}
use lib.Dec.{ltb}
use lib.ListN.{length, length-append}
use borrow.Author.Tests.{lt-ltb, le-ltb, ltb-true, ltb-false}
use Rattle.seqs.specs.Pick.{pick}
use Rattle.seqs.specs.Cases.{by_test}
use Rattle.cases.specs.Digits.{decimal, digits}

module _ (n : ℕ) where
  pub one_digit : n < 10 → decimal n ≡ (48 + n % 10) ∷ []
  unfolding decimal digits
  one_digit h = rw (lt-ltb n 10 h)

  pub two_digits : 10 ≤ n → n < 100 → decimal n ≡ (48 + n / 10 % 10) ∷ (48 + n % 10) ∷ []
  unfolding decimal digits
  two_digits h k = rw (le-ltb n 10 h, lt-ltb (n / 10) 10 (omega arith))

  -- dividing by ten twice, three and four times
  hundreds : n / 10 / 10 ≡ n / 100
  hundreds = omega arith

  thousands : n / 100 / 10 ≡ n / 1000
  thousands = omega arith

  ten_thousands : n / 1000 / 10 ≡ n / 10000
  ten_thousands = omega arith

  pub three_digits : 100 ≤ n → n < 1000 → decimal n ≡ (48 + n / 100 % 10) ∷ (48 + n / 10 % 10) ∷ (48 + n % 10) ∷ []
  unfolding decimal digits
  three_digits h k =
      rw (hundreds, le-ltb n 10 (omega arith), le-ltb (n / 10) 10 (omega arith), lt-ltb (n / 100) 10 (omega arith))

  pub four_digits : 1000 ≤ n → n < 10000
      → decimal n ≡ (48 + n / 1000 % 10) ∷ (48 + n / 100 % 10) ∷ (48 + n / 10 % 10) ∷ (48 + n % 10) ∷ []
  unfolding decimal digits
  four_digits h k =
      rw (hundreds, thousands, le-ltb n 10 (omega arith), le-ltb (n / 10) 10 (omega arith), le-ltb (n / 100) 10 (omega arith), lt-ltb (n / 1000) 10 (omega arith))

  pub five_digits : 10000 ≤ n → n < 100000
      → decimal n ≡ (48 + n / 10000 % 10) ∷ (48 + n / 1000 % 10) ∷ (48 + n / 100 % 10) ∷ (48 + n / 10 % 10) ∷ (48 + n % 10) ∷ []
  unfolding decimal digits
  five_digits h k =
      rw (hundreds, thousands, ten_thousands, le-ltb n 10 (omega arith), le-ltb (n / 10) 10 (omega arith), le-ltb (n / 100) 10 (omega arith), le-ltb (n / 1000) 10 (omega arith), lt-ltb (n / 10000) 10 (omega arith))

  -- how many there are
  pub one_long : n < 10 → length (decimal n) ≡ 1
  one_long h = ap length (one_digit h)

  pub three_most : n < 1000 → length (decimal n) ≤ 3
  three_most h =
      by_test (ltb n 10) (λ t. omega (arith, one_long (ltb-true n 10 t)))
      (λ t.
      by_test (ltb n 100) (λ u. omega (arith, ap length (two_digits (ltb-false n 10 t) (ltb-true n 100 u))))
      (λ u. omega (arith, ap length (three_digits (ltb-false n 100 u) h))))

  pub one_least : 1 ≤ length (decimal n)
  unfolding decimal digits
  one_least = omega (arith, length-append (pick (ltb n 10) [] (digits 4 (n / 10))) ((48 + n % 10) ∷ []))

digits_most : (k n : ℕ) → length (digits k n) ≤ k
unfolding digits
digits_most zero n = omega arith
digits_most (suc k) n =
    by_test (ltb n 10)
    (λ t. rw t (omega arith))
    (λ t. rw t (omega (arith, length-append (digits k (n / 10)) ((48 + n % 10) ∷ []), digits_most k (n / 10))))

pub five_most : (n : ℕ) → length (decimal n) ≤ 5
unfolding decimal
five_most n = digits_most 5 n
