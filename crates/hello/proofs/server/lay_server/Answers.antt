-- The fields of a ServerHello.
-- Assumes nothing.
use Rattle.std.proofs.Common.{◌+◌, ◌∙◌, ap, arith}
use Rattle.message.specs.Numbers.{byte_at, pair_at}
use Rattle.hello.proofs.Tries.{handed_on}
use Rattle.hello.proofs.Hellos.{server_1, server_2, server_3, server_yes}
use Rattle.hello.proofs.server.lay_server.Goals as goal

pub returns-in_err-identifier : goal.returns-in_err-identifier
returns-in_err-identifier c =
    rw (handed_on c.from_residual.result _ c.from_residual.ensures.1) (server_1 _ _ _ c.in_err-identifier.ensures)

pub returns-then-message-suite-lt3 : goal.returns-then-message-suite-lt3
returns-then-message-suite-lt3 c =
    server_2 _ _ _ c.in_ok-identifier.ensures (rw c.end-suite.ensures at c.if-message-suite-lt3.true)

pub returns-in_err-extensions : goal.returns-in_err-extensions
returns-in_err-extensions c =
    rw (handed_on c.from_residual-in_err-extensions.result _ c.from_residual-in_err-extensions.ensures.1)
    (server_3 _ _ _ c.in_ok-identifier.ensures (omega (arith, c.end-suite.ensures, c.in_ok-identifier.ensures.1)) _ (rw c.end-suite.ensures at c.in_err-extensions.ensures))

pub returns : goal.returns
returns c =
    let s = c.end-suite.ensures in
    server_yes _ _ _ c.in_ok-identifier.ensures (omega (arith, s, c.in_ok-identifier.ensures.1)) _ (rw s at c.in_ok-extensions.ensures) _ _ _ c.pair.ensures.0
    (c.pair-2.ensures.0 ∙ ap (pair_at c.args.message.now) s)
    (c.byte.ensures.0 ∙ ap (λ k. byte_at c.args.message.now (k + 2)) s)
