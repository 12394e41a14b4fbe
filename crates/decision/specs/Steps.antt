-- What the helpers of the decisions answer, each on plain values.
-- Assumes nothing.
use denote.Ref.{Bor}
use Rattle.std.specs.Prelude as std
use Rattle.std.specs.Prelude.{◌≡◌, Bool, true, false, not, List, [], ◌∷◌, ℕ, eqb, length, Result, Ok, Err}
use Rattle.std.proofs.Math.Option.{Option, none, some}
use Rattle.seqs.specs.Flag.{yes}
use Rattle.seqs.specs.Pick.{pick}
use Rattle.octets.specs.Put.{put_list}
use Rattle.refusal.specs.First.{first_of}
use Rattle.refusal.specs.Reason.{refusal_for}
use Rattle.refusal.specs.declared.reason.Reason.{Reason}
use Rattle.refusal.specs.declared.reason.Reason.TheVariants.{NoSecret, Name}
use Rattle.decision.specs.Connection.{closed, Outcome, refusing, decision}
use Rattle.decision.specs.Server.{Asked, Original, session_in, server_wrong, server_flag, server_outcome, server_reply, server_tests}
use Rattle.decision.specs.Client.{Told, Lent, is_empty, bad_offer, client_wrong, client_flag, resumption, fullness, client_outcome, client_tests}
use Rattle.hello.specs.Fields.{Reading, read_client, read_server}
use Rattle.sessions.specs.Book.{Book}
use Rattle.sessions.specs.Keeps.{Keeps}
use Rattle.sessions.specs.declared.table.Table.{Table}
use Rattle.sessions.specs.declared.row.Weighed.{Weighed}
use Rattle.hello.specs.Places.{client_answer, server_answer}
use Rattle.hello.specs.declared.client.ClientHello.{ClientHello}
use Rattle.hello.specs.declared.server.ServerHello.{ServerHello}
use Rattle.decision.specs.declared.connection.Connection.{Connection}
use Rattle.decision.specs.declared.connection.Switches.{Switches}
use Rattle.decision.specs.declared.connection.Decision.{Decision}
use Rattle.decision.specs.declared.outcome.Outcome as outcome
use Rattle.decision.specs.declared.server.Asked as server_side
use Rattle.decision.specs.declared.client.Told as client_side
use Rattle.decision.specs.declared.client.Lent as lent

-- RI from a flag and bytes
abbrev pub ri_of : Bool → List ℕ → Option (List ℕ)
ri_of true bytes = some bytes
ri_of false bytes = none

-- and as the code has it
abbrev pub ri_in : std.Option (Bor (List ℕ)) → Option (List ℕ)
ri_in std.None = none
ri_in (std.Some bytes) = some bytes.now

-- 9 or 5
unfoldable pub server_indication : Connection → Switches → Bool → Option (List ℕ) → ℕ
server_indication c s signal ri = first_of ((9, closed c) ∷ (5, server_wrong c s signal ri) ∷ [])

-- 7 or 5
unfoldable pub client_indication : Connection → Switches → Option (List ℕ) → ℕ
client_indication c s ri = first_of ((7, closed c) ∷ (5, client_wrong c s ri) ∷ [])

-- an outcome, as the code has it
abbrev pub outcome_of : outcome.Outcome → Outcome
outcome_of o = record { resumes = o.resumes; ems = o.ems }

-- and where there is none: 6
abbrev pub reached : Option Outcome → Result outcome.Outcome Reason
reached none = Err NoSecret
reached (some o) = Ok (record { resumes = o.resumes; ems = o.ems })

-- the client's, of the session that is resumed, if one is
abbrev pub client_reaches : Switches → Option Original → Bool → Option Outcome
client_reaches s none ems = fullness s ems
client_reaches s (some k) ems = resumption s k.ems ems

-- a decision or a refusal
abbrev pub decision_in : Result Decision Reason → Decision
decision_in (Ok d) = d
decision_in (Err e) = refusing (refusal_for e)

-- what a ClientHello asks, from plain values
abbrev pub asked_of : Bool → Option (List ℕ) → Bool → Asked
asked_of signal ri ems = record { signal = signal; ri = ri; ems = ems }

-- the server's decision on a hello that was read, for a good axle
unfoldable pub plain_number : Connection → Switches → Option Original → List ℕ → Asked → ℕ
plain_number c s k out a = first_of (server_tests c s k out a)

-- its answer, and what the lent output then holds; a hello that was read has no place of a fault
pub record Plain (c : Connection) (s : Switches) (k : Option Original) (out : List ℕ) (a : Asked) (r : Decision) (out' : List ℕ) : Type 0 where
  pub answer : r ≡ decision (plain_number c s k out a) 0 (server_outcome s k a.ems) (server_flag c a) (length (server_reply c s k a))
  pub output : out' ≡ pick (eqb (plain_number c s k out a) 0) (put_list out (server_reply c s k a)) out

-- a hello that the reader read from m
abbrev pub ClientWas : List ℕ → ClientHello → Type 0
ClientWas m h = Ok h ≡ client_answer (read_client m)

abbrev pub ServerWas : List ℕ → ServerHello → Type 0
ServerWas m h = Ok h ≡ server_answer (read_server m)

abbrev pub told_of : List ℕ → ℕ → Option (List ℕ) → Bool → Bool → Told
told_of i suite ri ems others = record { identifier = i; suite = suite; ri = ri; ems = ems; others = others }

-- the client's decision on a hello that was read, for a good offer i of a session of which k is weighed
unfoldable pub told_number : Connection → Switches → List ℕ → Original → Told → ℕ
told_number c s i k t = first_of (client_tests c s i k t)

unfoldable pub client_plain : Connection → Switches → List ℕ → Original → Told → Decision
client_plain c s i k t = decision (told_number c s i k t) 0 (client_outcome s i k t) (client_flag c t) 0

-- what is weighed of a session, as the code has it
abbrev pub weighed_in : Weighed → Original
weighed_in w = record { ems = yes w.ems; suite = w.suite }

abbrev pub original_in : std.Option Weighed → Option Original
original_in std.None = none
original_in (std.Some w) = some (weighed_in w)

-- what a hello asks or tells, as the code has it
abbrev pub asked_in : server_side.Asked → Asked
asked_in a = asked_of a.signal (ri_in a.indication) a.ems

abbrev pub told_in : client_side.Told → Told
told_in t = told_of t.identifier.now t.suite (ri_in t.indication) t.ems t.others

-- the session that is lent to the client
abbrev pub lent_in : std.Option lent.Lent → Option Lent
lent_in std.None = none
lent_in (std.Some l) = some (record { identifier = l.identifier.now; original = weighed_in l.session })

abbrev pub session_lent : std.Option lent.Lent → std.Option Weighed
session_lent std.None = std.None
session_lent (std.Some l) = std.Some l.session

-- and that bears the identifier offered, if one is offered
unfoldable pub offered_session : List ℕ → std.Option lent.Lent → Result (std.Option Weighed) Reason
offered_session i l = pick (bad_offer i (lent_in l)) (Err Name) (Ok (pick (is_empty i) std.None (session_lent l)))

-- there is a session exactly where an identifier is offered
abbrev pub Offers : List ℕ → Option Original → Type 0
Offers i none = length i ≡ 0
Offers i (some k) = length i ≡ 0 → ⊥

-- a session that is resumed bears another suite than the server names
abbrev pub of_another_suite : Option Original → ℕ → Bool
of_another_suite none suite = false
of_another_suite (some k) suite = not (eqb suite k.suite)

-- what is weighed of it
abbrev pub weighed_of_offered : Option Original → Original
weighed_of_offered none = record { ems = false; suite = 0 }
weighed_of_offered (some k) = k

-- the session of a hello, as some book has it and as the book that t keeps has it
pub record SessionIs (t : Table) (axle : ℕ) (r : Reading) (k : std.Option Weighed) : Type 0 where
  pub book : Book
  pub of_book : original_in k ≡ session_in axle r book
  pub answers : (b : Book) → Keeps t b → original_in k ≡ session_in axle r b
