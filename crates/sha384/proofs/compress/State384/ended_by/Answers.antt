-- The last block is laid out, and worked.
-- Assumes nothing.
use Rattle.std.proofs.Common.{◌≡◌, length, ap, ◌∙◌, arith, rules}
use Rattle.sha384.specs.Constants.{initial}
use Rattle.sha384.specs.Compress.{output}
use Rattle.sha384.specs.Sha384.{sha384}
use Rattle.sha384.proofs.compress.State384.ended_by.Goals as goal

pub returns : goal.returns
unfolding sha384
returns c k h =
    let room : length c.args.d ≡ 48 = search rules in
    c.output.ensures ∙ ap output (c.end_by.ensures.ended (search rules) (omega (arith, room)) initial k h.whole (c.from-v.ensures ∙ h.value))
