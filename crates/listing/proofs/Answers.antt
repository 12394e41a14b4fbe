-- An answer in print: with 1 and 2 its place, and how long it is.
-- Assumes nothing.
use mathlib.Core.Path.{◌≡◌}
use mathlib.Core.Bool.{true, false}
use mathlib.Core.List.{[], ◌∷◌, ◌++◌, append-nil}
use Prim.Native.Nat.{ℕ, ◌+◌, ◌≤◌, ◌<◌}
use native.Mathlib.Omega.{arith}
use lib.Dec.{eqb}
use lib.ListN.{length, length-append}
use borrow.Author.Tests.{eqb-true}
use Rattle.seqs.specs.Pick.{pick}
use Rattle.seqs.specs.Cases.{by_test}
use Rattle.refusal.specs.Table.{placed}
use Rattle.cases.specs.Digits.{ascii, decimal}
use Rattle.listing.specs.Texts.{answered}
use Rattle.cases.proofs.Decimals.{one_long, one_least, three_most}

module _ (n p : ℕ) where
  pub with_place : placed n ≡ true → answered n p ≡ decimal n ++ ((58 ∷ []) ++ decimal p)
  unfolding answered ascii
  with_place h = rw h

  pub bare : placed n ≡ false → answered n p ≡ decimal n
  unfolding answered
  bare h = rw (h, append-nil)

  pub with_place_long : placed n ≡ true → length (answered n p) ≡ length (decimal n) + 1 + length (decimal p)
  with_place_long h =
      rw (with_place h) (omega (arith, length-append (decimal n) (58 ∷ decimal p)))

  pub number_within : length (decimal n) ≤ length (answered n p)
  unfolding answered
  number_within = omega (arith, length-append (decimal n) (pick (placed n) (ascii ":" ++ decimal p) []))

  placed_small : placed n ≡ true → n ≤ 2
  placed_small h =
      by_test (eqb n 1) (λ t. omega (arith, eqb-true n 1 t)) (λ t. omega (arith, eqb-true n 2 (rw t at h)))

  -- a bare number has at most three digits
  pub answered_most : n < 1000 → length (answered n p) ≤ 2 + length (decimal p)
  answered_most h =
      by_test (placed n) (λ t. omega (arith, with_place_long t, one_long n (omega (arith, placed_small t))))
      (λ t. rw (bare t) (omega (arith, three_most n h, one_least p)))
