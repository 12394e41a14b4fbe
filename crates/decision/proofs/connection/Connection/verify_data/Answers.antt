-- One behind the other.
-- Assumes nothing.
use Rattle.std.proofs.Common.{◌≡◌, length, rules}
use Rattle.decision.proofs.Replying.{halves}
use Rattle.decision.proofs.connection.Connection.verify_data.Goals as goal

pub returns : goal.returns
returns c =
    let k = c.args.self.now in
    let l : length k.client ≡ 12 = search rules in
    halves k.client k.server l c.copy_from_slice.ensures.after c.copy_from_slice-2.ensures.after
