-- Document 01, 'Server's decision'.
-- Assumes nothing.
use Rattle.std.specs.Prelude.{◌≡◌, Bool, true, false, not, ◌||◌, List, [], ◌∷◌, ℕ, eqb, ltb, length}
use Rattle.std.proofs.Math.Option.{Option, none, some}
use Rattle.seqs.specs.Pick.{pick}
use Rattle.refusal.specs.First.{first_of}
use Rattle.octets.specs.Put.{put_list}
use Rattle.sessions.specs.Book.{Session, Book, sought, bad_axle}
use Rattle.sessions.specs.Keeps.{Keeps}
use Rattle.sessions.specs.declared.table.Table.{Table}
use Rattle.hello.specs.Extensions.{indication_of, ems_of}
use Rattle.hello.specs.Fields.{Reading, fields, fault, lists, signal_in}
use Rattle.decision.specs.Connection.{later, closed, present, saying, wrong_first, legacy_full, legacy_resumption, Outcome, full_ems, full_legacy, resumed_ems, resumed_legacy, allowed, forbidden, uses_ems, decision}
use Rattle.decision.specs.Reply.{reply_of}
use Rattle.decision.specs.declared.connection.Connection.{Connection}
use Rattle.decision.specs.declared.connection.Switches.{Switches}
use Rattle.decision.specs.declared.connection.Decision.{Decision}

-- what the decision asks of a ClientHello
pub record Asked : Type 0 where
  pub signal : Bool
  pub ri : Option (List ℕ)
  pub ems : Bool

abbrev pub asked : Reading → Asked
asked (fields h) = record { signal = signal_in h.suites; ri = indication_of h.extensions; ems = ems_of h.extensions }
asked (fault n p) = record { signal = false; ri = none; ems = false }

-- a reading's fault: 10, 1, 2 or 3, in that order
abbrev pub faulty : Reading → Bool
faulty (fields h) = false
faulty (fault n p) = true

abbrev pub fault_of : Reading → ℕ
fault_of (fields h) = 0
fault_of (fault n p) = n

-- and its place. Order 9: 'Every call that answers 1 or 2 from a message hands it on.' A decision's 1 and 2 are its reading's, for no
-- test of its own has these numbers, and they alone go with a place (`refusal_at`): with the reading's number the decision hands on the
-- reading's place, and beside every other number stands 0.
abbrev pub fault_place : Reading → ℕ
fault_place (fields h) = 0
fault_place (fault n p) = p

-- what is weighed of a session that could be resumed, RFC 7627's 'original session': was its master secret made with EMS, and which is
-- its suite?
pub record Original : Type 0 where
  pub ems : Bool
  pub suite : ℕ

abbrev pub original_of : Option Session → Option Original
original_of none = none
original_of (some s) = some (record { ems = s.ems; suite = s.suite })

-- Order 2: 'On the server, a known session whose suite isn't listed counts as none.' RFC 5246, section 7.4.1.2: 'If the session_id
-- field is not empty (implying a session resumption request), this vector MUST include at least the cipher_suite from that session.'
unfoldable pub on_offer : List ℕ → Option Original → Option Original
on_offer suites none = none
on_offer suites (some k) = pick (lists k.suite suites) (some k) none

-- 'The hello's identifier, if not empty, is looked up for its axle': what is weighed of the session found, or none. 'What counts as none
-- is none before document 01's outcomes and RFC 7627 section 5.3 are asked': nothing below knows of it.
unfoldable pub session_in : ℕ → Reading → Book → Option Original
session_in axle (fields h) b =
    pick (eqb (length h.identifier) 0) none (on_offer h.suites (original_of (sought axle h.identifier b)))
session_in axle (fault n p) b = none

-- 5. First handshake: as of either side, where the signal stands for an empty RI. Later: 'the signal present is 5, RI missing
-- is 5, RI other than the saved client verify_data is 5'
unfoldable pub server_wrong : Connection → Switches → Bool → Option (List ℕ) → Bool
server_wrong c s signal ri = pick (later c) (signal || not (saying c.client ri)) (wrong_first s signal ri)

-- 'First handshake: signal or RI present sets the flag; .. neither clears the flag'. In a later one it is set, or the handshake is closed.
unfoldable pub server_flag : Connection → Asked → Bool
server_flag c a = pick (later c) true (a.signal || present a.ri)

-- the table of six rows. Of a known session: by its EMS and the hello's
unfoldable pub resumable : Switches → Bool → Bool → Option Outcome
resumable s false true = some full_ems
resumable s false false = allowed (legacy_resumption s) resumed_legacy
resumable s true true = some resumed_ems
resumable s true false = none

-- and of none: by the hello's
unfoldable pub server_outcome : Switches → Option Original → Bool → Option Outcome
server_outcome s none true = some full_ems
server_outcome s none false = allowed (legacy_full s) full_legacy
server_outcome s (some k) ems = resumable s k.ems ems

-- the reply that goes with it
unfoldable pub server_reply : Connection → Switches → Option Original → Asked → List ℕ
server_reply c s k a = reply_of c (server_flag c a) (uses_ems (server_outcome s k a.ems))

-- what is asked of a hello that was read, for a good axle and a lent output that holds out
abbrev pub server_tests : Connection → Switches → Option Original → List ℕ → Asked → List (ℕ × Bool)
server_tests c s k out a =
    (9, closed c)
    ∷ (5, server_wrong c s a.signal a.ri)
    ∷ (6, forbidden (server_outcome s k a.ems))
    ∷ (10, ltb (length out) (length (server_reply c s k a)))
    ∷ []

-- the number
unfoldable pub server_number : ℕ → Reading → Option Original → Connection → Switches → List ℕ → ℕ
server_number axle r k c s out =
    first_of ((11, bad_axle axle) ∷ (fault_of r, faulty r) ∷ server_tests c s k out (asked r))

unfoldable pub server_decision : ℕ → Reading → Option Original → Connection → Switches → List ℕ → Decision
server_decision axle r k c s out =
    decision (server_number axle r k c s out) (fault_place r) (server_outcome s k (asked r).ems) (server_flag c (asked r)) (length (server_reply c s k (asked r)))

-- 'Output beyond the reply is untouched.'
unfoldable pub server_output : ℕ → Reading → Option Original → Connection → Switches → List ℕ → List ℕ
server_output axle r k c s out = pick (eqb (server_number axle r k c s out) 0) (put_list out (server_reply c s k (asked r))) out

-- What the call promises: the answer, and what the lent output then holds, are those of a book
pub record DecidedBy (axle : ℕ) (r : Reading) (b : Book) (c : Connection) (s : Switches) (out : List ℕ) (d : Decision) (out' : List ℕ) : Type 0 where
  pub answer : d ≡ server_decision axle r (session_in axle r b) c s out
  pub output : out' ≡ server_output axle r (session_in axle r b) c s out

-- of a table t whatever it is, and of the book that it keeps
pub record ServerDecides (t : Table) (axle : ℕ) (r : Reading) (c : Connection) (s : Switches) (out : List ℕ) (d : Decision) (out' : List ℕ) : Type 0 where
  pub book : Book
  pub of_book : DecidedBy axle r book c s out d out'
  -- refused: nothing is written
  pub refused : (d.refusal.number ≡ 0 → ⊥) → out' ≡ out
  pub answers : (b : Book) → Keeps t b → DecidedBy axle r b c s out d out'
