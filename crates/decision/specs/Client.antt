-- Document 01, 'Client's decision'.
-- Assumes nothing.
use Rattle.std.specs.Prelude.{Bool, true, false, not, ◌&&◌, ◌||◌, List, [], ◌∷◌, ◌++◌, ℕ, eqb, ltb, length}
use Rattle.std.proofs.Math.Option.{Option, none, some}
use Rattle.seqs.specs.Pick.{pick}
use Rattle.refusal.specs.First.{first_of}
use Rattle.octets.specs.Same.{same}
use Rattle.hello.specs.Layout.{big}
use Rattle.hello.specs.Extensions.{indication_of, ems_of, others_of}
use Rattle.hello.specs.Fields.{Reading, fields, fault}
use Rattle.decision.specs.Connection.{later, closed, present, saying, wrong_first, legacy_full, legacy_resumption, Outcome, full_ems, full_legacy, resumed_ems, resumed_legacy, allowed, forbidden, decision}
use Rattle.decision.specs.Server.{faulty, fault_of, fault_place, Original}
use Rattle.decision.specs.declared.connection.Connection.{Connection}
use Rattle.decision.specs.declared.connection.Switches.{Switches}
use Rattle.decision.specs.declared.connection.Decision.{Decision}

-- what the decision asks of a ServerHello
pub record Told : Type 0 where
  pub identifier : List ℕ
  pub suite : ℕ
  pub ri : Option (List ℕ)
  pub ems : Bool
  -- a type other than these two is there
  pub others : Bool

abbrev pub told : Reading → Told
told (fields h) =
    record {
      identifier = h.identifier;
      suite = big h.suites;
      ri = indication_of h.extensions;
      ems = ems_of h.extensions;
      others = others_of h.extensions;
    }
told (fault n p) = record { identifier = []; suite = 0; ri = none; ems = false; others = false }

-- the session that the offered identifier belongs to, as the client lends it
pub record Lent : Type 0 where
  pub identifier : List ℕ
  pub original : Original

abbrev pub lent_of : Bool → List ℕ → Original → Option Lent
lent_of true i k = some (record { identifier = i; original = k })
lent_of false i k = none

abbrev pub bears : Option Lent → List ℕ → Bool
bears none i = false
bears (some l) i = same l.identifier i

-- what is weighed of it; without a session nothing resumes, and it is not asked
abbrev pub weighed_of : Option Lent → Original
weighed_of none = record { ems = false; suite = 0 }
weighed_of (some l) = l.original

abbrev pub is_empty : List ℕ → Bool
is_empty l = eqb (length l) 0

-- 11: 'Offering more than 32 bytes, or an identifier without a session that bears it'
unfoldable pub bad_offer : List ℕ → Option Lent → Bool
bad_offer i l = ltb 32 (length i) || (not (is_empty i) && not (bears l i))

-- 5: 'First handshake: RI must be empty, else 5; missing .. is 5 where required. Later: .. RI must be the 24 saved bytes, else 5'
unfoldable pub client_wrong : Connection → Switches → Option (List ℕ) → Bool
client_wrong c s ri = pick (later c) (not (saying (c.client ++ c.server) ri)) (wrong_first s false ri)

-- 'missing clears the flag'
unfoldable pub client_flag : Connection → Told → Bool
client_flag c t = pick (later c) true (present t.ri)

-- 'A ServerHello naming the offered, non-empty identifier resumes'
unfoldable pub client_resumes : List ℕ → Told → Bool
client_resumes i t = not (is_empty i) && same t.identifier i

-- 12. Order 2: 'On the client, a resuming ServerHello must name the session's suite.' RFC 5246, section 7.4.1.3: 'For resumed sessions, this
-- field is the value from the state of the session being resumed.'
unfoldable pub suite_differs : List ℕ → Original → Told → Bool
suite_differs i k t = client_resumes i t && not (eqb t.suite k.suite)

-- 'then its EMS must equal the session's, else 6, and neither having it needs the legacy resumption switch, else 6': by the
-- session's EMS and the hello's
unfoldable pub resumption : Switches → Bool → Bool → Option Outcome
resumption s true true = some resumed_ems
resumption s true false = none
resumption s false true = none
resumption s false false = allowed (legacy_resumption s) resumed_legacy

-- 'Anything else means full: EMS if present, else legacy if allowed, else 6.'
unfoldable pub fullness : Switches → Bool → Option Outcome
fullness s true = some full_ems
fullness s false = allowed (legacy_full s) full_legacy

-- k is what is weighed of the session that is offered
unfoldable pub client_outcome : Switches → List ℕ → Original → Told → Option Outcome
client_outcome s i k t = pick (client_resumes i t) (resumption s k.ems t.ems) (fullness s t.ems)

-- 'a new 12, suite differs, fatal 47, directly before 6'
abbrev pub client_tests : Connection → Switches → List ℕ → Original → Told → List (ℕ × Bool)
client_tests c s i k t =
    (4, t.others)
    ∷ (7, closed c)
    ∷ (5, client_wrong c s t.ri)
    ∷ (12, suite_differs i k t)
    ∷ (6, forbidden (client_outcome s i k t))
    ∷ []

-- 4: 'Any other type from the server is 4.' 7: 'Later: bar set or flag clear is 7'
unfoldable pub client_number : Reading → List ℕ → Option Lent → Connection → Switches → ℕ
client_number r i l c s =
    first_of ((11, bad_offer i l) ∷ (fault_of r, faulty r) ∷ client_tests c s i (weighed_of l) (told r))

-- the client writes no reply
unfoldable pub client_decision : Reading → List ℕ → Option Lent → Connection → Switches → Decision
client_decision r i l c s = decision (client_number r i l c s) (fault_place r) (client_outcome s i (weighed_of l) (told r)) (client_flag c (told r)) 0
