-- How large a place can be: of one digit in the log's answer, and within the longest message in the decision's.
-- Assumes nothing.
use mathlib.Core.Path.{◌≡◌, refl}
use mathlib.Core.Bool.{Bool, true, false}
use mathlib.Core.List.{List}
use mathlib.Core.Option.{Option, none, some}
use Prim.Native.Nat.{ℕ, ◌≤◌}
use native.Mathlib.Omega.{arith}
use lib.Dec.{eqb}
use lib.ListN.{replicate}
use Rattle.seqs.specs.Pick.{pick}
use Rattle.seqs.specs.Cases.{by_test}
use Rattle.refusal.specs.Table.{placed, refusal_at, refusal_of}
use Rattle.refusal.specs.Listed.{place_at, placed_at}
use Rattle.refusal.specs.declared.Refusal.{Refusal}
use Rattle.message_log.specs.Calls.{broken_at}
use Rattle.message_log.proofs.Messages.{broken_within}
use Rattle.hello.specs.Fields.{Reading, fields, fault, read_client}
use Rattle.hello.proofs.Within.{client_place_within}
use Rattle.sessions.specs.Book.{empty}
use Rattle.decision.specs.Connection.{Outcome, fresh_connection, refused_by, decided, decision}
use Rattle.decision.specs.Server.{Original, fault_place, session_in, server_decision}
use Rattle.decision.specs.declared.connection.Connection.{Connection}
use Rattle.decision.specs.declared.connection.Switches.{Switches}
use Rattle.listing.specs.Listing.{all_off, decision_on, decision_refusal}

pick_most : (b : Bool) (p : ℕ) → pick b p 0 ≤ p
pick_most true p = omega arith
pick_most false p = omega arith

pub log_place : (n : ℕ) (m : List ℕ) (r : Refusal) → r ≡ refusal_at n (broken_at m) → r.place ≤ 3
log_place n m r e = omega (arith, placed_at n (broken_at m) r e, pick_most (placed n) (broken_at m), broken_within m)

at_most : (n p : ℕ) → (refusal_at n p).place ≤ p
at_most n p = omega (arith, place_at n p, pick_most (placed n) p)

decision_most : (n p : ℕ) (o : Option Outcome) (flag : Bool) (size : ℕ) → (decision n p o flag size).refusal.place ≤ p
unfolding decision refused_by decided refusal_of
decision_most n p none flag size = at_most n p
decision_most n p (some o) flag size =
    by_test (eqb n 0) (λ t. rw t (omega (arith, place_at 0 0))) (λ t. rw t (at_most n p))

fault_most : (m : List ℕ) (r : Reading) → read_client m ≡ r → fault_place r ≤ 16388
fault_most m (fields h) e = omega arith
fault_most m (fault n p) e = (client_place_within m n p e).1

server_most : (m : List ℕ) (k : Option Original) (c : Connection) (w : Switches) (out : List ℕ) → (server_decision 1 (read_client m) k c w out).refusal.place ≤ fault_place (read_client m)
unfolding server_decision
server_most m k c w out = decision_most _ _ _ _ _

pub decision_place : (m : List ℕ) → (decision_refusal m).place ≤ 16388
unfolding decision_refusal decision_on
decision_place m =
    omega
    (arith, server_most m (session_in 1 (read_client m) empty) fresh_connection all_off (replicate 35 0), fault_most m (read_client m) refl)
