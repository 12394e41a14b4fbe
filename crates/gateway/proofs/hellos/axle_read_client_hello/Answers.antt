-- The answer of the reader of ClientHellos, set out case by case.
-- Assumes nothing.
use Rattle.std.proofs.Common.{◌≡◌, ap, rules}
use Rattle.gateway.specs.Hellos.{no_client_hello, client_reading}
use Rattle.gateway.proofs.hellos.axle_read_client_hello.Goals as goal

pub returns-in-Ok : goal.returns-in-Ok
unfolding client_reading
returns-in-Ok c = rw c.refuse.ensures (ap client_reading c.in-Ok.ensures)

pub returns-in-Err : goal.returns-in-Err
unfolding client_reading
returns-in-Err c =
    let e : c.default.result ≡ no_client_hello = search rules in
    rw (c.from.ensures, e) (ap client_reading c.in-Err.ensures)
