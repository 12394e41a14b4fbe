-- The columns from the left.
-- Assumes nothing.
use Rattle.std.proofs.Common.{◌≤◌, ◌+◌, length, append_assoc, arith, length-append, ℕ}
use Rattle.cases.specs.Digits.{ascii}
use Rattle.cases.proofs.Decimals.{three_most}
use Rattle.listing.specs.Texts.{printed}
use Rattle.listing.proofs.line.line_of.Goals as goal

pub put_number-requires : goal.put_number-requires
put_number-requires c = rw c.empty-line.ensures (omega (arith, three_most c.args.number (omega arith)))

pub put_column-requires : goal.put_column-requires
put_column-requires c = rw (c.put_number.ensures, c.empty-line.ensures) (omega (arith, three_most c.args.number (omega arith)))

pub put_column-requires-2 : goal.put_column-requires-2
put_column-requires-2 c = rw (c.put_column.ensures, c.put_number.ensures, c.empty-line.ensures) (omega (arith, length-append {A = ℕ}, three_most c.args.number (omega arith)))

pub put_column-requires-3 : goal.put_column-requires-3
put_column-requires-3 c = rw (c.put_column-2.ensures, c.put_column.ensures, c.put_number.ensures, c.empty-line.ensures) (omega (arith, length-append {A = ℕ}, three_most c.args.number (omega arith)))

pub returns-clause-value : goal.returns-clause-value
unfolding printed ascii
returns-clause-value c =
    let fit : length c.put_column-3.new.line + 1 ≤ 16 = rw (c.put_column-3.ensures, c.put_column-2.ensures, c.put_column.ensures, c.put_number.ensures, c.empty-line.ensures) (omega (arith, length-append {A = ℕ}, three_most c.args.number (omega arith))) in
    rw (c.push.ensures.fits fit, c.put_column-3.ensures, c.put_column-2.ensures, c.put_column.ensures, c.put_number.ensures, c.empty-line.ensures) (simp append_assoc)

pub returns-clause-short : goal.returns-clause-short
returns-clause-short c =
    let fit : length c.put_column-3.new.line + 1 ≤ 16 = rw (c.put_column-3.ensures, c.put_column-2.ensures, c.put_column.ensures, c.put_number.ensures, c.empty-line.ensures) (omega (arith, length-append {A = ℕ}, three_most c.args.number (omega arith))) in
    rw (c.push.ensures.fits fit, c.put_column-3.ensures, c.put_column-2.ensures, c.put_column.ensures, c.put_number.ensures, c.empty-line.ensures) (omega (arith, length-append {A = ℕ}, three_most c.args.number (omega arith)))
