-- What is wrong in a first handshake.
-- Assumes nothing.
use Rattle.std.proofs.Common.{◌≡◌, ◌∙◌, ap, true, false, not}
use Rattle.decision.specs.Connection.{wrong_first}
use Rattle.decision.specs.Steps.{ri_in}
use Rattle.decision.proofs.Turns.{first_ri, first_none}
use Rattle.decision.proofs.indication.first.Goals as goal
use Rattle.decision.proofs.indication.first.Goals.{in-Some, in-None+then-not-signal, in-None+else-not-signal}

pub returns-then-wrong : goal.returns-then-wrong
returns-then-wrong c =
    let a = c.args in
    let s = a.switches.now in
    let e : c.match-indication.wrong ≡ wrong_first s a.signal (ri_in a.indication) =
    elim c.match-indication.branch [
      | in-Some w ↦ rw w.in-Some.is (w.wrong-is ∙ ap not w.is_empty.ensures ∙ first_ri s a.signal w.in-Some.bytes.now)
      | in-None+then-not-signal w ↦ rw w.in-None.is (w.wrong-is ∙ (rw w.if-not-signal.true (first_none s false)))
      | in-None+else-not-signal w ↦ rw w.in-None.is (w.wrong-is ∙ (rw w.if-not-signal.false (first_none s true)))
    ] in
    rw (← e, c.if-wrong.true)

pub returns : goal.returns
returns c =
    let a = c.args in
    let s = a.switches.now in
    let e : c.match-indication.wrong ≡ wrong_first s a.signal (ri_in a.indication) =
    elim c.match-indication.branch [
      | in-Some w ↦ rw w.in-Some.is (w.wrong-is ∙ ap not w.is_empty.ensures ∙ first_ri s a.signal w.in-Some.bytes.now)
      | in-None+then-not-signal w ↦ rw w.in-None.is (w.wrong-is ∙ (rw w.if-not-signal.true (first_none s false)))
      | in-None+else-not-signal w ↦ rw w.in-None.is (w.wrong-is ∙ (rw w.if-not-signal.false (first_none s true)))
    ] in
    rw (← e, c.if-wrong.false)
