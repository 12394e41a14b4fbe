-- The outcomes: the server's rows of no session are those of a full handshake, and what the code answers.
-- Assumes nothing.
use mathlib.Core.Path.{◌≡◌, refl, sym, ap}
use mathlib.Core.Bool.{Bool, true, false}
use mathlib.Core.Option.{Option, none, some}
use Rattle.std.specs.Prelude.{Ok, Err}
use Rattle.refusal.specs.declared.reason.Reason.{Reason}
use Rattle.refusal.specs.declared.reason.Reason.TheVariants.{NoSecret}
use Rattle.decision.specs.Connection.{Outcome}
use Rattle.decision.specs.Steps.{outcome_of, reached}
use Rattle.decision.specs.declared.outcome.Outcome as outcome
use Rattle.decision.specs.Server.{server_outcome}
use Rattle.decision.specs.Client.{fullness}
use Rattle.decision.specs.declared.connection.Switches.{Switches}

pub row_none : (s : Switches) (e : Bool) → server_outcome s none e ≡ fullness s e
unfolding server_outcome fullness
row_none s true = refl
row_none s false = refl

-- the outcome or its refusal, as the code has it
pub reached_none : (x : Option Outcome) (e : Reason) → Err e ≡ reached x → (e ≡ NoSecret) × (x ≡ none)
reached_none none e q = (cc, refl)
reached_none (some o) e q = cc

pub reached_some : (x : Option Outcome) (o : outcome.Outcome) → Ok o ≡ reached x → x ≡ some (outcome_of o)
reached_some none o q = cc
reached_some (some p) o q = let e : o ≡ record { resumes = p.resumes; ems = p.ems } = cc in sym (ap (λ (y : outcome.Outcome). some (outcome_of y)) e)
