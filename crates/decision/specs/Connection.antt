-- What both decisions rest on: the connection record, the switches, the outcomes, and the answer that says one.
-- Assumes nothing.
use Rattle.std.specs.Prelude.{Bool, true, false, not, ◌&&◌, ◌||◌, List, [], ℕ, eqb, replicate}
use Rattle.std.proofs.Math.Option.{Option, none, some}
use Rattle.seqs.specs.Pick.{pick}
use Rattle.seqs.specs.Flag.{yes, bit}
use Rattle.refusal.specs.Table.{refusal_of, refusal_at}
use Rattle.refusal.specs.declared.Refusal.{Refusal}
use Rattle.octets.specs.Same.{same}
use Rattle.decision.specs.declared.connection.Connection.{Connection}
use Rattle.decision.specs.declared.connection.Switches.{Switches}
use Rattle.decision.specs.declared.connection.Decision.{Decision}

-- ---- 'It holds: a handshake has completed or not, the indication flag, the renegotiation bar, and the client's and server's
-- 12-byte verify_data.' A later handshake is a renegotiation.

-- 'Fresh: all no, all zero.'
abbrev pub fresh_connection : Connection
fresh_connection = record { completed = 0; indication = 0; barred = 0; client = replicate 12 0; server = replicate 12 0 }

abbrev pub later : Connection → Bool
later c = yes c.completed

-- 'Later handshake: bar set or flag clear'
unfoldable pub closed : Connection → Bool
closed c = later c && (yes c.barred || not (yes c.indication))

-- ---- 'Three switches come with each decision: indication required, legacy full allowed, legacy resumption allowed.'

abbrev pub required : Switches → Bool
required s = yes s.indication_required

abbrev pub legacy_full : Switches → Bool
legacy_full s = yes s.legacy_full

abbrev pub legacy_resumption : Switches → Bool
legacy_resumption s = yes s.legacy_resumption

-- ---- RI, as a hello has it: its bytes, or none where it is missing

abbrev pub present : Option (List ℕ) → Bool
present none = false
present (some bytes) = true

-- it is there and holds these bytes, compared whole
abbrev pub saying : List ℕ → Option (List ℕ) → Bool
saying v none = false
saying v (some bytes) = same bytes v

-- 'RI present must hold no bytes, else 5; neither .. is 5 where the indication is required'
unfoldable pub wrong_first : Switches → Bool → Option (List ℕ) → Bool
wrong_first s signal none = not signal && required s
wrong_first s signal (some bytes) = not (same bytes [])

-- ---- outcomes: resumed or full; with EMS (RFC 7627), or legacy

pub record Outcome : Type 0 where
  pub resumes : Bool
  pub ems : Bool

abbrev pub full_ems : Outcome
full_ems = record { resumes = false; ems = true }

abbrev pub full_legacy : Outcome
full_legacy = record { resumes = false; ems = false }

abbrev pub resumed_ems : Outcome
resumed_ems = record { resumes = true; ems = true }

abbrev pub resumed_legacy : Outcome
resumed_legacy = record { resumes = true; ems = false }

-- a legacy outcome if it is allowed, else none, which is 6
abbrev pub allowed : Bool → Outcome → Option Outcome
allowed true o = some o
allowed false o = none

-- 6: 'master secret rule forbids it'
abbrev pub forbidden : Option Outcome → Bool
forbidden none = true
forbidden (some o) = false

abbrev pub uses_ems : Option Outcome → Bool
uses_ems none = false
uses_ems (some o) = o.ems

-- ---- answers

-- 'A refusal returns its number and alert and nothing else', but for the place that order 9 puts beside them
abbrev pub refusing : Refusal → Decision
refusing r =
    record {
      refusal = r;
      resumes = 0;
      ems = 0;
      indication = 0;
      bar = 0;
      bars_export = 0;
      bars_verify_data = 0;
      reply_length = 0;
    }

-- number n; p is the place in the hello, which goes with 1 and 2 alone
unfoldable pub refused_by : ℕ → ℕ → Decision
refused_by n p = refusing (refusal_at n p)

-- 'A legacy outcome bars key export. Legacy resumption also bars verify_data for other uses and, at completion, sets the
-- renegotiation bar.' The flag is the one that completion will write.
unfoldable pub decided : Outcome → Bool → ℕ → Decision
decided o flag n =
    record {
      refusal = refusal_of 0;
      resumes = bit o.resumes;
      ems = bit o.ems;
      indication = bit flag;
      bar = bit (o.resumes && not o.ems);
      bars_export = bit (not o.ems);
      bars_verify_data = bit (o.resumes && not o.ems);
      reply_length = n;
    }

-- an outcome or none, by the number: where that is 0 there is one. p is the place of the reading's fault.
unfoldable pub decision : ℕ → ℕ → Option Outcome → Bool → ℕ → Decision
decision n p none flag size = refused_by n p
decision n p (some o) flag size = pick (eqb n 0) (decided o flag size) (refused_by n p)
