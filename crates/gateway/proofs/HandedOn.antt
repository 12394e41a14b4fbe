-- What specs/HandedOn.antt says of the calls that are lent a message.
-- Assumes nothing.
use mathlib.Core.Path.{◌≡◌, refl, sym, ◌∙◌, ap, ap₂}
use mathlib.Core.Bool.{Bool, true, false}
use mathlib.Core.List.{List, ◌∷◌}
use mathlib.Core.Option.{Option}
use Prim.Native.Nat.{ℕ}
use Rattle.seqs.specs.Cases.{by_test, not_both}
use Rattle.refusal.specs.First.{first_of}
use Rattle.refusal.specs.Table.{placed, refusal_at}
use Rattle.refusal.proofs.First.{first_unplaced}
use Rattle.hello.specs.Fields.{Reading, fields, fault, read_client, read_server}
use Rattle.hello.specs.Places.{client_answer, server_answer}
use Rattle.sessions.specs.Book.{bad_axle}
use Rattle.decision.specs.Connection.{Outcome, refused_by, decision}
use Rattle.decision.specs.Server.{Original, asked, fault_place, session_in, server_tests, server_number, server_decision}
use Rattle.decision.specs.Client.{Lent, weighed_of, told, bad_offer, client_tests, client_number, client_decision}
use Rattle.decision.specs.declared.connection.Connection.{Connection}
use Rattle.decision.specs.declared.connection.Switches.{Switches}
use Rattle.decision.specs.declared.connection.Decision.{Decision}
use Rattle.decision.proofs.Judging.{decision_refused}
use Rattle.decision.proofs.Serving.{decision_number}
use Rattle.message_log.specs.Calls.{broken_at}
use Rattle.gateway.specs.Hellos.{client_reading, server_reading}
use Rattle.gateway.specs.HandedOn.{ServerHandsOn, ClientHandsOn, LogHandsOn, PartHandsOn}
use Rattle.gateway.specs.declared.hellos.ClientReading.{ClientReading}
use Rattle.gateway.specs.declared.hellos.ServerReading.{ServerReading}

-- a decision by a number that a place goes with is that number's refusal
by_number : (n p : ℕ) (o : Option Outcome) (flag : Bool) (size : ℕ) (d : Decision) → d ≡ decision n p o flag size → placed d.refusal.number ≡ true
    → (placed n ≡ true) × (d.refusal ≡ refusal_at n p)
unfolding refused_by
by_number n p o flag size d e y =
    let k : d.refusal.number ≡ n = ap (λ (x : Decision). x.refusal.number) e ∙ decision_number n p o flag size in
    let z : placed n ≡ true = sym (ap placed k) ∙ y in
    (z, ap (λ (x : Decision). x.refusal) (e ∙ decision_refused n p o flag size (λ w. not_both z (ap placed w))))

-- the number of a decision, by the reading: one that a place goes with is the fault's
server_number_lem : (axle : ℕ) (x : Reading) (k : Option Original) (c : Connection) (s : Switches) (out : List ℕ) → placed (server_number axle x k c s out) ≡ true
    → (n : ℕ) × (p : ℕ) × (x ≡ fault n p) × (server_number axle x k c s out ≡ n)
unfolding server_number first_of
server_number_lem axle (fields h) k c s out y = not_both y (first_unplaced ((11, bad_axle axle) ∷ (0, false) ∷ server_tests c s k out (asked (fields h))) refl)
server_number_lem axle (fault n p) k c s out y =
    by_test (bad_axle axle)
    (λ b. not_both y (rw b))
    (λ b. (n, p, refl, rw b))

client_number_lem : (x : Reading) (i : List ℕ) (l : Option Lent) (c : Connection) (s : Switches) → placed (client_number x i l c s) ≡ true
    → (n : ℕ) × (p : ℕ) × (x ≡ fault n p) × (client_number x i l c s ≡ n)
unfolding client_number first_of
client_number_lem (fields h) i l c s y = not_both y (first_unplaced ((11, bad_offer i l) ∷ (0, false) ∷ client_tests c s i (weighed_of l) (told (fields h))) refl)
client_number_lem (fault n p) i l c s y =
    by_test (bad_offer i l)
    (λ b. not_both y (rw b))
    (λ b. (n, p, refl, rw b))

pub server_hands_on : ServerHandsOn
unfolding server_decision client_reading client_answer
server_hands_on t axle m c s out out' d r w e y =
    let b = session_in axle (read_client m) w.book in
    let g = by_number (server_number axle (read_client m) b c s out) (fault_place (read_client m)) _ _ _ d w.of_book.answer y in
    let f = server_number_lem axle (read_client m) b c s out g.0 in
    let q : r.refusal ≡ refusal_at f.0 f.1 = ap (λ (x : ClientReading). x.refusal) (e ∙ ap (λ (x : Reading). client_reading (client_answer x)) f.2) in
    g.1 ∙ ap₂ refusal_at f.3 (ap fault_place f.2) ∙ sym q

pub client_hands_on : ClientHandsOn
unfolding client_decision server_reading server_answer
client_hands_on m i l c s d r w e y =
    let g = by_number (client_number (read_server m) i l c s) (fault_place (read_server m)) _ _ _ d w y in
    let f = client_number_lem (read_server m) i l c s g.0 in
    let q : r.refusal ≡ refusal_at f.0 f.1 = ap (λ (x : ServerReading). x.refusal) (e ∙ ap (λ (x : Reading). server_reading (server_answer x)) f.2) in
    g.1 ∙ ap₂ refusal_at f.3 (ap fault_place f.2) ∙ sym q

pub log_hands_on : LogHandsOn
log_hands_on log log' secret m tell r r' a f y y' = a.placed ∙ ap (λ (n : ℕ). refusal_at n (broken_at m)) (y ∙ sym y') ∙ sym f.placed

pub part_hands_on : PartHandsOn
part_hands_on log log' m k tell r r' a f y y' = a.placed ∙ ap (λ (n : ℕ). refusal_at n (broken_at m)) (y ∙ sym y') ∙ sym f.placed
