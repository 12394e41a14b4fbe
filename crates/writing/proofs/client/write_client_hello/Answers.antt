-- Writing a ClientHello, as the attempt answers; fields outside their bounds, and lists that do not fit each other, are refused before.
-- Assumes nothing.
use Rattle.std.proofs.Common.{◌≡◌, refl, sym, ◌∙◌, ap, true, not, ◌||◌, length, Err, inl, inr}
use Rattle.refusal.specs.declared.reason.Reason.TheVariants as reason
use Rattle.writing.specs.Steps.{opens_outside, lists_outside}
use Rattle.writing.proofs.Writers.{unbounded, refuses, handed}
use Rattle.writing.proofs.Hellos.{client_counts}
use Rattle.writing.proofs.client.write_client_hello.Goals as goal
use Rattle.writing.proofs.client.write_client_hello.Goals.{then-not-is_bounded-via-then-not-is_bounded, then-not-is_bounded-via-else-not-is_bounded+then-not-offers}

pub returns-then-not-is_bounded : goal.returns-then-not-is_bounded
returns-then-not-is_bounded c =
    let a = c.args in
    let o : (opens_outside (length a.random.now) (length a.identifier.now) || lists_outside (length a.suites.now) (length a.methods.now)) ≡ true =
    elim c.then-not-is_bounded.branch [
      | then-not-is_bounded-via-then-not-is_bounded w ↦ rw (sym c.is_bounded.ensures ∙ ap not w.if-not-is_bounded.true) refl
      | then-not-is_bounded-via-else-not-is_bounded+then-not-offers w ↦ rw (sym c.is_bounded.ensures ∙ ap not w.if-not-is_bounded.false, sym w.offers.ensures ∙ ap not w.if-not-offers.true) refl
    ] in
    handed (Err reason.Length) c.from.ensures
    (refuses _ _ reason.Length (unbounded _ _ _ _ a.types.now a.lengths.now a.«data».now _ _ (client_counts a.version a.random.now a.identifier.now a.suites.now a.methods.now a.block a.types.now a.lengths.now a.«data».now) a.out.now (inl o)))

pub returns-in_default : goal.returns-in_default
returns-in_default c =
    let a = c.args in
    handed (Err reason.Length) c.from-in_default.ensures
    (refuses _ _ reason.Length (unbounded _ _ _ _ a.types.now a.lengths.now a.«data».now _ _ (client_counts a.version a.random.now a.identifier.now a.suites.now a.methods.now a.block a.types.now a.lengths.now a.«data».now) a.out.now (inr c.in_default.ensures)))

pub returns : goal.returns
returns c =
    let e = c.in-Some.ensures in
    rw (← e.0, ← e.1, ← e.2, ← e.3) (handed c.try_client.result c.from-2.ensures c.try_client.ensures)
