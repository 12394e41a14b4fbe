-- A reader's answer, of which only a hello that was read is kept.
-- Assumes nothing.
use Rattle.std.proofs.Common.{◌≡◌, ℕ, Some, None, Result, Ok, Err, arith}
use Rattle.std.specs.Result.{result_ok}
use Rattle.refusal.specs.Reason.{refused, refusal_for}
use Rattle.refusal.specs.declared.Refusal.{Refusal}
use Rattle.refusal.specs.declared.reason.Reason.{Reason}

pub kept : {A : Type 0} (r : Result A Reason) (x : A) (q : Result A Refusal) → result_ok r ≡ Some x → refused r ≡ q → Ok x ≡ q
kept (Ok y) x q e f = cc
kept (Err z) x q e f = cc

pub dropped : {A : Type 0} (r : Result A Reason) (q : Result A Refusal) → result_ok r ≡ None → refused r ≡ q → (y : Refusal) × (Err y ≡ q)
dropped (Ok y) q e f = absurd (let z : ◌≡◌ {A = ℕ} 0 1 = cc in omega arith)
dropped (Err z) q e f = (refusal_for z, f)
