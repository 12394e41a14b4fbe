-- The fields of a ClientHello.
-- Assumes nothing.
use Rattle.std.proofs.Common.{◌∙◌, ap}
use Rattle.hello.specs.Fields.{signal_in}
use Rattle.hello.proofs.Tries.{handed_on}
use Rattle.hello.proofs.Hellos.{client_1, client_2, client_3, client_4, client_5, client_yes}
use Rattle.hello.proofs.client.lay_client.Goals as goal

pub returns-in_err-identifier : goal.returns-in_err-identifier
returns-in_err-identifier c =
    rw (handed_on c.from_residual.result _ c.from_residual.ensures.1) (client_1 _ _ _ c.in_err-identifier.ensures)

pub returns-in_err-suites : goal.returns-in_err-suites
returns-in_err-suites c =
    rw (handed_on c.from_residual-in_err-suites.result _ c.from_residual-in_err-suites.ensures.1)
    (client_2 _ _ _ c.in_ok-identifier.ensures _ (rw c.end-at.ensures at c.in_err-suites.ensures))

pub returns-then-suites-ne0 : goal.returns-then-suites-ne0
returns-then-suites-ne0 c =
    rw c.end-at.ensures (client_3 _ _ _ c.in_ok-identifier.ensures _ (rw c.end-at.ensures at c.in_ok-suites.ensures) c.if-suites-ne0.true)

pub returns-in_err-methods : goal.returns-in_err-methods
returns-in_err-methods c =
    rw (handed_on c.from_residual-in_err-methods.result _ c.from_residual-in_err-methods.ensures.1)
    (client_4 _ _ _ c.in_ok-identifier.ensures _ (rw c.end-at.ensures at c.in_ok-suites.ensures) c.if-suites-ne0.false _ (rw c.end.ensures at c.in_err-methods.ensures))

pub returns-in_err-extensions : goal.returns-in_err-extensions
returns-in_err-extensions c =
    rw (handed_on c.from_residual-in_err-extensions.result _ c.from_residual-in_err-extensions.ensures.1)
    (client_5 _ _ _ c.in_ok-identifier.ensures _ (rw c.end-at.ensures at c.in_ok-suites.ensures) c.if-suites-ne0.false _ (rw c.end.ensures at c.in_ok-methods.ensures) _ (rw c.end-2.ensures at c.in_err-extensions.ensures))

pub returns : goal.returns
returns c =
    client_yes _ _ _ c.in_ok-identifier.ensures _ (rw c.end-at.ensures at c.in_ok-suites.ensures) c.if-suites-ne0.false _ (rw c.end.ensures at c.in_ok-methods.ensures) _ (rw c.end-2.ensures at c.in_ok-extensions.ensures) _ c.pair.ensures.0
    (c.lists_suite.ensures ∙ ap signal_in c.of.ensures)
    c.from.ensures
