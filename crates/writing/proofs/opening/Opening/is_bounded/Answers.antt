-- The bounds of random and identifier.
-- Assumes nothing.
use Rattle.std.proofs.Common.{length}
use borrow.Author.Tests.{ne_eqb}
use Rattle.writing.proofs.Sizing.{opens_random, opens_identifier}
use Rattle.writing.proofs.opening.Opening.is_bounded.Goals as goal

pub returns-then-self-eq32 : goal.returns-then-self-eq32
returns-then-self-eq32 c = opens_identifier _ _ c.if-self-eq32.true

pub returns-else-self-eq32 : goal.returns-else-self-eq32
returns-else-self-eq32 c = rw (ne_eqb (length c.args.self.now.random.now) 32 c.if-self-eq32.false) (opens_random _ _ c.if-self-eq32.false)
