-- The last block is laid out, and worked.
-- Assumes nothing.
use Rattle.std.proofs.Common.{◌≡◌, length, ap, ◌∙◌, arith, rules}
use Rattle.sha256.specs.Constants.{initial}
use Rattle.sha256.specs.Compress.{output}
use Rattle.sha256.specs.Sha256.{sha256}
use Rattle.sha256.proofs.compress.State.ended_by.Goals as goal

pub returns : goal.returns
unfolding sha256
returns c k h =
    let room : length c.args.d ≡ 32 = search rules in
    c.output.ensures ∙ ap output (c.end_by.ensures.ended (search rules) (omega (arith, room)) initial k h.whole (c.from-v.ensures ∙ h.value))
