-- The line by the log's answer; the log as it answered.
-- Assumes nothing.
use native.Mathlib.Omega.{arith}
use Rattle.listing.proofs.Columns.{columns_most, line_by}
use Rattle.cases.proofs.Decimals.{one_long}
use Rattle.listing.proofs.feed.feed.Goals as goal

pub answer-requires : goal.answer-requires
answer-requires c = omega (arith, c.take-accepted.ensures.short)

pub line_of-requires : goal.line_of-requires
line_of-requires c =
    let r = c.take-accepted.result.refusal in
    let b = c.take-accepted.ensures.short in
    columns_most r.number r.place _ _ _ _
    c.kind.ensures.value
    c.answer.ensures.value
    c.hello-decided.ensures.value
    c.kind.ensures.short
    (omega (arith, c.answer.ensures.short, one_long r.place (omega (arith, b))))
    c.hello-decided.ensures.short

pub returns : goal.returns
returns c =
    let taken = c.take-accepted in
    record {
      short = c.line_of.ensures.short;
      line = λ h s.
          rw (c.line_of.ensures.value, c.kind.ensures.value, c.answer.ensures.value, c.hello-decided.ensures.value) (line_by _ h _ _ (taken.ensures.refusal h s));
      stands = taken.ensures.stands;
    }
