-- The flag and the two bytes of the suite.
-- Assumes nothing.
use Rattle.std.proofs.Common.{ap, ◌∙◌, ℕ, not, eqb, arith}
use Rattle.seqs.specs.Flag.{bit}
use Rattle.sessions.specs.declared.row.Weighed.{Weighed}
use Rattle.sessions.specs.Keeps.{session_of}
use Rattle.sessions.proofs.Fields.{from_bool_is}
use Rattle.sessions.proofs.row.Row.weighed.Goals as goal

pub returns : goal.returns
unfolding session_of
returns c =
    let some = not (eqb c.args.self.now.ems 0) in
    λ a. rw (c.from.ensures, from_bool_is some) (ap {B = Weighed} (λ (u : ℕ). record { ems = bit some; suite = u }) (c.from_be_bytes.ensures ∙ omega arith))
