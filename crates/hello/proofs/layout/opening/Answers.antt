-- Version, random and identifier.
-- Assumes nothing.
use native.Mathlib.Omega.{arith}
use Rattle.hello.proofs.Hellos.{opens_short, opens_then}
use Rattle.hello.proofs.layout.opening.Goals as goal

pub returns-then-message-at : goal.returns-then-message-at
returns-then-message-at c = let a = c.args in opens_short a.message.now a.start (omega arith) (omega arith)

pub returns : goal.returns
returns c = let a = c.args in opens_then a.message.now a.start (omega arith) c.vector.result (omega arith) c.vector.ensures
