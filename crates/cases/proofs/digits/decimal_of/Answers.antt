-- By how many digits there are.
-- Assumes nothing.
use Rattle.std.proofs.Common.{◌≡◌, ◌≤◌, ◌+◌, ◌-◌, ℕ, [], ◌∷◌, length, take, drop, length-take, arith, sym, ◌∙◌}
use Rattle.cases.proofs.Decimals.{one_digit, two_digits, three_digits, four_digits, five_digits}
use Rattle.cases.proofs.digits.decimal_of.Goals as goal
use Rattle.cases.proofs.digits.decimal_of.Goals.{in-0-to-9, in-10-to-99, in-100-to-999, in-1000-to-9999, in_default}

-- they fit
fit : (zeros a b c d e : ℕ) → 0 + length (take (5 - zeros) (drop zeros (a ∷ b ∷ c ∷ d ∷ e ∷ []))) ≤ 5
fit zeros a b c d e = omega (arith, length-take (5 - zeros) (drop zeros (a ∷ b ∷ c ∷ d ∷ e ∷ [])))

pub returns : goal.returns
returns c =
    let n = c.args.n in
    let fits = rw (c.empty-decimal.ensures, c.digit.ensures, c.digit-2.ensures, c.digit-3.ensures, c.digit-4.ensures, c.digit-5.ensures) at c.push.ensures.fits in
    let all = fits (fit c.if-n-lt10.zeros _ _ _ _ _) in
    elim c.if-n-lt10.branch [
      | in-0-to-9 w ↦ let z : c.if-n-lt10.zeros ≡ 4 = omega arith in (rw z at all) ∙ sym (one_digit n (omega arith))
      | in-10-to-99 w ↦ let z : c.if-n-lt10.zeros ≡ 3 = omega arith in (rw z at all) ∙ sym (two_digits n (omega arith) (omega arith))
      | in-100-to-999 w ↦ let z : c.if-n-lt10.zeros ≡ 2 = omega arith in (rw z at all) ∙ sym (three_digits n (omega arith) (omega arith))
      | in-1000-to-9999 w ↦ let z : c.if-n-lt10.zeros ≡ 1 = omega arith in (rw z at all) ∙ sym (four_digits n (omega arith) (omega arith))
      | in_default w ↦ let z : c.if-n-lt10.zeros ≡ 0 = omega arith in (rw z at all) ∙ sym (five_digits n (omega arith) (omega arith))
    ]
