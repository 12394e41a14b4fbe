-- Writing a ServerHello, as the attempt answers; fields outside their bounds, and lists that do not fit each other, are refused before.
-- Assumes nothing.
use Rattle.std.proofs.Common.{sym, ◌∙◌, ap, not, Err, inl, inr}
use Rattle.refusal.specs.declared.reason.Reason.TheVariants as reason
use Rattle.writing.proofs.Writers.{unbounded, refuses, handed}
use Rattle.writing.proofs.Hellos.{server_counts}
use Rattle.writing.proofs.server.write_server_hello.Goals as goal

pub returns-then-not-is_bounded : goal.returns-then-not-is_bounded
returns-then-not-is_bounded c =
    let a = c.args in
    handed (Err reason.Length) c.from.ensures
    (refuses _ _ reason.Length (unbounded _ _ _ _ a.types.now a.lengths.now a.«data».now _ _ (server_counts a.version a.random.now a.identifier.now a.suite a.compression a.block a.types.now a.lengths.now a.«data».now) a.out.now (inl (sym c.is_bounded.ensures ∙ ap not c.if-not-is_bounded.true))))

pub returns-in_default : goal.returns-in_default
returns-in_default c =
    let a = c.args in
    handed (Err reason.Length) c.from-in_default.ensures
    (refuses _ _ reason.Length (unbounded _ _ _ _ a.types.now a.lengths.now a.«data».now _ _ (server_counts a.version a.random.now a.identifier.now a.suite a.compression a.block a.types.now a.lengths.now a.«data».now) a.out.now (inr c.in_default.ensures)))

pub returns : goal.returns
returns c =
    let e = c.in-Some.ensures in
    rw (← e.0, ← e.1, ← e.2, ← e.3) (handed c.try_server.result c.from-2.ensures c.try_server.ensures)
