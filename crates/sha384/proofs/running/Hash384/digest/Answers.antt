-- What is left in the state behind the padding is the hash value.
-- Assumes nothing.
use Rattle.std.proofs.Common.{ap, ◌∙◌, arith, rules}
use Rattle.sha384.specs.Constants.{initial}
use Rattle.sha384.specs.Compress.{output}
use Rattle.sha384.specs.Sha384.{sha384}
use Rattle.sha384.proofs.running.Hash384.digest.Goals as goal

pub returns-then-self-gt-MOST : goal.returns-then-self-gt-MOST
returns-then-self-gt-MOST c m h = absurd (omega (arith, h.holds.counted, h.bounded))

pub returns : goal.returns
unfolding sha384
returns c m h = c.output.ensures ∙ ap output (c.end.ensures.ended (search rules) (omega arith) initial m (record { worked = c.from-v.ensures ∙ h.holds.worked; waits = h.holds.waits; counted = h.holds.counted }))
