-- The hash of a whole message, or the refusal.
-- Assumes nothing.
use Rattle.std.proofs.Common.{◌/◌, ◌≤◌, length, sym, ap, ◌∙◌, arith, rules}
use Rattle.seqs.specs.Sha2.{Value}
use Rattle.refusal.specs.Table.{refusal_of}
use Rattle.sha384.specs.Compress.{output}
use Rattle.sha384.specs.Sha384.{sha384, hashed, padded}
use Rattle.sha384.specs.Running.{most}
use Rattle.sha384.specs.Laws.{number_over, number_within}
use Rattle.sha384.proofs.OneShot.{digested, undigested}
use Rattle.sha384.proofs.running.sha384.Goals as goal

pub returns-then-message-gt-MOST : goal.returns-then-message-gt-MOST
unfolding refusal_of
returns-then-message-gt-MOST c =
    let m = c.args.message.now in
    undigested m c.from-refusal.result (c.from-refusal.ensures ∙ ap refusal_of (sym (number_over 0 (length m) (omega arith)))) (omega arith)

pub returns : goal.returns
unfolding sha384
returns c =
    let m = c.args.message.now in
    let w : length m ≤ most = omega arith in
    digested m c.refuse-refusal.result (c.refuse-refusal.ensures ∙ ap refusal_of (sym (number_within 0 (length m) (omega arith)))) c.output-digest.result w
    (c.output-digest.ensures ∙ ap output (c.whole.ensures.whole (search rules) w ∙ ap (λ (v : Value). hashed v (length (padded m) / 128) (padded m)) c.initial-v.ensures))
