-- 1 to 256.
-- Assumes nothing.
use native.Mathlib.Omega.{arith}
use Rattle.std.proofs.lemmas.Bool.Decides.{nat_tests}
use Rattle.message_log.specs.Feed.{bad_allowance}
use Rattle.message_log.proofs.feed.allowed.Goals as goal

pub returns : goal.returns
unfolding bad_allowance
returns c = grind (arith, nat_tests, c.contains.ensures.cases, c.new.ensures.start, c.new.ensures.end, c.new.ensures.exhausted)
