-- A first part is judged as the message that it begins, a later one by how much is left.
-- Assumes nothing.
use mathlib.Core.Path.{sym, ◌∙◌}
use native.Mathlib.Omega.{arith}
use borrow.Author.Tests.{not-true, not-false}
use Rattle.message_log.proofs.Feeding.{allowance_part, first_part, length_part, request_part, next_part}
use Rattle.message_log.proofs.state.Log.part.Goals as goal

pub returns-then-not-allowed : goal.returns-then-not-allowed
returns-then-not-allowed c = allowance_part _ _ _ _ (not-false _ (sym c.allowed.ensures ∙ c.if-not-allowed.true))

pub returns-then-self-eq0 : goal.returns-then-self-eq0
returns-then-self-eq0 c = first_part _ _ _ _ (not-true _ (sym c.allowed.ensures ∙ c.if-not-allowed.false)) c.turn.result c.turn.ensures c.if-self-eq0.true

pub returns-then-rest-self : goal.returns-then-rest-self
returns-then-rest-self c =
    length_part _ _ _ _ (not-true _ (sym c.allowed.ensures ∙ c.if-not-allowed.false)) c.if-self-eq0.false (λ e. omega (arith, c.if-rest-self.true, e))

pub returns-then-self-eq-HELLO_REQUEST : goal.returns-then-self-eq-HELLO_REQUEST
returns-then-self-eq-HELLO_REQUEST c =
    request_part _ _ _ _ (not-true _ (sym c.allowed.ensures ∙ c.if-not-allowed.false)) c.if-self-eq0.false (omega (arith, c.if-rest-self.false))
    (omega arith) c.if-self-eq-HELLO_REQUEST.true

pub returns : goal.returns
returns c =
    next_part _ _ _ _ (not-true _ (sym c.allowed.ensures ∙ c.if-not-allowed.false)) c.if-self-eq0.false (omega (arith, c.if-rest-self.false))
    (omega arith)
