-- Two bytes within the message are the pair there.
-- Assumes nothing.
use Rattle.std.proofs.Common.{◌+◌, refl, arith}
use Rattle.message.specs.Numbers.{byte_at, pair_at}
use Rattle.hello.proofs.walk.two.Goals as goal

pub returns : goal.returns
unfolding byte_at pair_at
returns c = (refl, omega (arith, c.type_inv.message c.args.at, c.type_inv.message (c.args.at + 1)))
