-- The number, and with some its place.
-- Assumes nothing.
use Rattle.std.proofs.Common.{◌≡◌, ◌≤◌, ◌+◌, true, ℕ, length, arith, sym, ◌∙◌, length-append, append_assoc}
use Rattle.refusal.specs.Table.{placed}
use Rattle.listing.proofs.Answers.{with_place, with_place_long, bare, number_within}
use Rattle.listing.proofs.line.put_answer.Goals as goal

pub put_number-requires : goal.put_number-requires
put_number-requires c = omega (arith, number_within c.args.n c.args.place)

pub put_number-requires-then-has_place : goal.put_number-requires-then-has_place
put_number-requires-then-has_place c =
    let a = c.args in
    let t : placed a.n ≡ true = sym c.has_place.ensures ∙ c.if-has_place.true in
    let fit : length c.put_number.new.line + 1 ≤ 16 = rw c.put_number.ensures (omega (arith, length-append {A = ℕ}, with_place_long a.n a.place t)) in
    rw (c.push.ensures.fits fit, c.put_number.ensures) (omega (arith, length-append {A = ℕ}, with_place_long a.n a.place t))

pub returns-then-has_place : goal.returns-then-has_place
returns-then-has_place c =
    let a = c.args in
    let t : placed a.n ≡ true = sym c.has_place.ensures ∙ c.if-has_place.true in
    let fit : length c.put_number.new.line + 1 ≤ 16 = rw c.put_number.ensures (omega (arith, length-append {A = ℕ}, with_place_long a.n a.place t)) in
    rw (c.put_number-then-has_place.ensures, c.push.ensures.fits fit, c.put_number.ensures, with_place a.n a.place t) (simp append_assoc)

pub returns-else-has_place : goal.returns-else-has_place
returns-else-has_place c =
    let a = c.args in
    rw (bare a.n a.place (sym c.has_place.ensures ∙ c.if-has_place.false)) c.put_number.ensures
