-- Refused by the bound, or taken.
-- Assumes nothing.
use Rattle.std.proofs.Common.{◌+◌, ◌<◌, ◌≤◌, length, sym, refl, ap, ◌∙◌, arith, ltb-false, ltb-true}
use Rattle.refusal.specs.Table.{refusal_of}
use Rattle.sha256.specs.Running.{taken, most}
use Rattle.sha256.specs.Laws.{number_over, number_within}
use Rattle.sha256.proofs.running.Hash.absorb.Goals as goal

pub returns-then-exceeds : goal.returns-then-exceeds
unfolding taken refusal_of
returns-then-exceeds c =
    let a = c.args in
    let w : most < a.self.length + length a.bytes.now = ltb-true most _ (sym c.exceeds.ensures ∙ c.if-exceeds.true) in
    record {
      refusal = c.from-r.ensures ∙ ap refusal_of (sym (number_over a.self.length (length a.bytes.now) w));
      refused = λ _. refl;
      runs = λ m h g. absurd (omega (arith, h.holds.counted));
    }

pub returns : goal.returns
unfolding taken
returns c =
    let a = c.args in
    let w : a.self.length + length a.bytes.now ≤ most = ltb-false most _ (sym c.exceeds.ensures ∙ c.if-exceeds.false) in
    record {
      refusal = c.refuse-refusal.ensures ∙ ap refusal_of (sym (number_within a.self.length (length a.bytes.now) w));
      refused = λ g. absurd (omega arith);
      runs = c.take.ensures.runs;
    }
