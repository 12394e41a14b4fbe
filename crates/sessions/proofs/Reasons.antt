-- Laws: the number of a reason.
-- Assumes nothing.
use Rattle.std.proofs.Common.{◌≡◌, sym, ℕ, false, arith}
use Rattle.refusal.specs.Table.{placed, refusal_of}
use Rattle.refusal.specs.Listed.{anywhere}
use Rattle.refusal.specs.Reason.{number_for, refusal_for}
use Rattle.refusal.specs.declared.reason.Reason.{Reason}
use Rattle.refusal.specs.declared.reason.Reason.TheVariants.{Malformed, Repeated, Version, NotOffered, Indication, NoSecret, OutOfTurn, Differs, Closed, Length, Name, Suite}

-- it is not 0
pub reason_some : (e : Reason) → number_for e ≡ 0 → ⊥
reason_some (Malformed p) z = absurd (omega arith)
reason_some (Repeated p) z = absurd (omega arith)
reason_some Version z = absurd (omega arith)
reason_some NotOffered z = absurd (omega arith)
reason_some Indication z = absurd (omega arith)
reason_some NoSecret z = absurd (omega arith)
reason_some OutOfTurn z = absurd (omega arith)
reason_some Differs z = absurd (omega arith)
reason_some Closed z = absurd (omega arith)
reason_some Length z = absurd (omega arith)
reason_some Name z = absurd (omega arith)
reason_some Suite z = absurd (omega arith)

-- with a number that goes with no place it is the number's row
pub bare_row : (e : Reason) (n : ℕ) → number_for e ≡ n → placed n ≡ false → refusal_for e ≡ refusal_of n
bare_row e n h b = rw h (sym (anywhere n _ b))
