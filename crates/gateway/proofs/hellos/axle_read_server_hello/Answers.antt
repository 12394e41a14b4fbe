-- The answer of the reader of ServerHellos, set out case by case.
-- Assumes nothing.
use Rattle.std.proofs.Common.{◌≡◌, ap, rules}
use Rattle.gateway.specs.Hellos.{no_server_hello, server_reading}
use Rattle.gateway.proofs.hellos.axle_read_server_hello.Goals as goal

pub returns-in-Ok : goal.returns-in-Ok
unfolding server_reading
returns-in-Ok c = rw c.refuse.ensures (ap server_reading c.in-Ok.ensures)

pub returns-in-Err : goal.returns-in-Err
unfolding server_reading
returns-in-Err c =
    let e : c.default.result ≡ no_server_hello = search rules in
    rw (c.from.ensures, e) (ap server_reading c.in-Err.ensures)
