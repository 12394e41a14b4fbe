-- The smaller of what is left and the room of the allowance.
-- Assumes nothing.
use Rattle.std.proofs.Common.{min, ap, ◌∙◌}
use Rattle.transcript.specs.Choice.{algorithm_by}
use Rattle.transcript.proofs.Letting.{lets_384, lets_256}
use Rattle.transcript.proofs.Transcript.lets_in.Goals as goal
use Rattle.transcript.proofs.Transcript.lets_in.Goals.{then-is_sha384, else-is_sha384}

pub returns : goal.returns
returns c =
    let a = c.args in
    elim c.if-is_sha384.branch [
      | then-is_sha384 w ↦
          lets_384 a.self.now a.allowance a.left _ _ (λ d m h. c.is_sha384.ensures d m h ∙ ap algorithm_by w.if-is_sha384.true) w.waiting.ensures
          (c.min.ensures ∙ ap (min a.left) w.room-is)
      | else-is_sha384 w ↦
          lets_256 a.self.now a.allowance a.left _ _ (λ d m h. c.is_sha384.ensures d m h ∙ ap algorithm_by w.if-is_sha384.false)
          w.waiting-else-is_sha384.ensures (c.min.ensures ∙ ap (min a.left) w.room-is)
    ]
