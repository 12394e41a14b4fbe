-- A dash, a number or an answer.
-- Assumes nothing.
use Rattle.std.proofs.Common.{◌≤◌, ◌+◌, ap, length, arith, append_assoc, length-append, ℕ}
use Rattle.cases.specs.Digits.{ascii}
use Rattle.listing.specs.Texts.{column_of}
use Rattle.listing.specs.declared.line.Column.{Column}
use Rattle.listing.proofs.line.put_column.Goals as goal

pub put_number-requires : goal.put_number-requires
unfolding column_of
put_number-requires c =
    let fit : length c.args.line.now + 1 ≤ 16 = omega arith in
    rw (c.push.ensures.fits fit) (omega (arith, length-append {A = ℕ}, ap (λ (x : Column). length (column_of x)) c.in-Number.is))

pub put_answer-requires : goal.put_answer-requires
unfolding column_of
put_answer-requires c =
    let fit : length c.args.line.now + 1 ≤ 16 = omega arith in
    rw (c.push.ensures.fits fit) (omega (arith, length-append {A = ℕ}, ap (λ (x : Column). length (column_of x)) c.in-Answer.is))

pub returns-in-Nothing : goal.returns-in-Nothing
unfolding column_of ascii
returns-in-Nothing c =
    let fit : length c.args.line.now + 1 ≤ 16 = omega arith in
    let more : length c.push.new.self + 1 ≤ 16 = rw (c.push.ensures.fits fit) (omega (arith, length-append {A = ℕ}, ap (λ (x : Column). length (column_of x)) c.in-Nothing.is)) in
    rw (c.in-Nothing.is, c.push-in-Nothing.ensures.fits more, c.push.ensures.fits fit) (simp append_assoc)

pub returns-in-Number : goal.returns-in-Number
unfolding column_of
returns-in-Number c =
    let fit : length c.args.line.now + 1 ≤ 16 = omega arith in
    rw (c.in-Number.is, c.put_number.ensures, c.push.ensures.fits fit) (simp append_assoc)

pub returns-in-Answer : goal.returns-in-Answer
unfolding column_of
returns-in-Answer c =
    let fit : length c.args.line.now + 1 ≤ 16 = omega arith in
    rw (c.in-Answer.is, c.put_answer.ensures, c.push.ensures.fits fit) (simp append_assoc)
