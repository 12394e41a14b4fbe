-- Accepted, and of type 1.
-- Assumes nothing.
use mathlib.Core.Path.{sym, ◌∙◌, ap}
use native.Mathlib.Omega.{arith}
use Rattle.message.specs.Frame.{kind_of}
use Rattle.listing.specs.Listing.{answer_of}
use Rattle.listing.proofs.Columns.{hello_refused, hello_other, hello_decided, dash_most}
use Rattle.cases.proofs.Decimals.{five_most}
use Rattle.listing.proofs.Placing.{decision_place}
use Rattle.listing.proofs.feed.hello.Goals as goal

pub returns-then-number-ne0 : goal.returns-then-number-ne0
returns-then-number-ne0 c = record { value = sym (hello_refused _ _ c.if-number-ne0.true); short = dash_most 7 (omega arith) }

pub returns-then-byte-ne-CLIENT_HELLO : goal.returns-then-byte-ne-CLIENT_HELLO
unfolding kind_of
returns-then-byte-ne-CLIENT_HELLO c =
    record {
      value = sym (hello_other _ _ c.if-number-ne0.false (λ e. c.if-byte-ne-CLIENT_HELLO.true (c.byte.ensures.0 ∙ e)));
      short = dash_most 7 (omega arith);
    }

pub answer-requires : goal.answer-requires
answer-requires c = rw c.decide.ensures (omega (arith, decision_place c.args.message.now))

pub returns : goal.returns
unfolding kind_of
returns c =
    record {
      value =
          c.answer.ensures.value
          ∙ ap answer_of c.decide.ensures
          ∙ sym (hello_decided _ _ c.if-number-ne0.false (sym c.byte.ensures.0 ∙ c.if-byte-ne-CLIENT_HELLO.false));
      short = omega (arith, five_most c.decide.result.place);
    }
