-- Each way out is a refusal, or a message that is in turn.
-- Assumes nothing.
use mathlib.Core.Path.{refl, sym, ◌∙◌}
use native.Mathlib.Omega.{arith}
use Rattle.message_log.specs.Places.{read, led}
use Rattle.message_log.specs.Stands.{number}
use Rattle.message_log.proofs.Reasons.{handed_on, nothing_there}
use Rattle.message_log.proofs.Held.{somewhere, led_from, led_past}
use Rattle.message_log.proofs.Chosen.{told_byte}
use Rattle.message_log.proofs.Accepting.{shape_turn, between_turn, request_turn, finished_turn, out_turn, other_turn}
use Rattle.message_log.proofs.state.Log.turn.Goals as goal

pub returns-in_err-kind : goal.returns-in_err-kind
returns-in_err-kind c = rw (handed_on _ _ c.from_residual.ensures.1) (shape_turn _ _ _ _ c.in_err-kind.ensures)

pub returns-then-self-ne0 : goal.returns-then-self-ne0
returns-then-self-ne0 c = between_turn _ _ _ _ c.in_ok-kind.ensures (λ e. omega (arith, c.if-self-ne0.true, e))

pub returns-then-kind-eq-HELLO_REQUEST : goal.returns-then-kind-eq-HELLO_REQUEST
returns-then-kind-eq-HELLO_REQUEST c = request_turn _ _ _ _ c.in_ok-kind.ensures c.if-self-ne0.false c.if-kind-eq-HELLO_REQUEST.true

pub returns-then-kind-eq-FINISHED : goal.returns-then-kind-eq-FINISHED
returns-then-kind-eq-FINISHED c = finished_turn _ _ _ _ c.in_ok-kind.ensures c.if-self-ne0.false c.if-kind-eq-FINISHED.true

pub returns-in_err-try_from : goal.returns-in_err-try_from
returns-in_err-try_from c =
    rw (handed_on _ _ c.from_residual-in_err-try_from.ensures.1, c.in_err-try_from.ensures.0)
    (out_turn _ _ _ _ c.in_ok-kind.ensures c.if-self-ne0.false c.if-kind-eq-HELLO_REQUEST.false c.if-kind-eq-FINISHED.false 17
    (led_past _ _ _ c.in_err-try_from.ensures.1) refl)

pub returns-in_err-place : goal.returns-in_err-place
unfolding number
returns-in_err-place c =
    let n = nothing_there c.next.result _ _ c.in_err-place.ensures.value in
    rw (handed_on _ _ c.from_residual-in_err-place.ensures.1, n.1)
    (out_turn _ _ _ _ c.in_ok-kind.ensures c.if-self-ne0.false c.if-kind-eq-HELLO_REQUEST.false c.if-kind-eq-FINISHED.false _
    (led_from _ _ _ c.in_ok-try_from.field-0 (led c.next.result) c.in_ok-try_from.ensures c.next.ensures) (rw n.0))

pub returns : goal.returns
returns c =
    other_turn _ _ _ _ c.in_ok-kind.ensures c.if-self-ne0.false c.if-kind-eq-HELLO_REQUEST.false c.if-kind-eq-FINISHED.false c.from.result
    (λ p e.
    c.from.ensures
    ∙ led_from _ _ _ c.in_ok-try_from.field-0 (read c.in_ok-place.place) c.in_ok-try_from.ensures (rw c.in_ok-place.ensures.ok_part at c.next.ensures) p e)
    (λ z. somewhere c.in_ok-place.place (sym c.from.ensures ∙ z)) _ (told_byte c.args.told.sha384 c.from-2.ensures)
