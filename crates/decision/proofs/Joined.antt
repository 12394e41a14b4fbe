-- The reply rule of the two calls' own promises: of the bytes that the server wrote.
-- Assumes nothing.
use mathlib.Core.Path.{◌≡◌, refl, sym, ◌∙◌, ap}
use mathlib.Core.Bool.{Bool, true, false}
use mathlib.Core.List.{List, [], ◌∷◌}
use mathlib.Core.Option.{Option, none, some}
use Prim.Native.Nat.{ℕ}
use native.Mathlib.Omega.{arith}
use lib.Dec.{ltb}
use lib.ListN.{length, take, drop}
use lib.Seq.{take_at}
use borrow.Author.Tests.{ltb-false, le-leb}
use Rattle.seqs.specs.Flag.{yes}
use Rattle.refusal.specs.First.{first_of}
use Rattle.sessions.specs.Book.{Book, bad_axle}
use Rattle.hello.specs.Fields.{Hello, Reading, fields, read_client}
use Rattle.hello.proofs.Learnt.{client_bounds}
use Rattle.decision.specs.Connection.{closed, Outcome, forbidden, decided, decision}
use Rattle.decision.specs.Server.{Original, asked, faulty, fault_of, fault_place, session_in, server_wrong, server_flag, server_outcome, server_reply, server_number, server_decision, server_output, DecidedBy}
use Rattle.decision.specs.Agreement.{ReplyRule}
use Rattle.decision.specs.declared.connection.Connection.{Connection}
use Rattle.decision.specs.declared.connection.Switches.{Switches}
use Rattle.decision.specs.declared.connection.Decision.{Decision}
use Rattle.decision.proofs.Serving.{decision_number}
use Rattle.decision.proofs.Agreement.{answers_agree}

-- the last test of a list whose number is 0
room : (a g k w o x : Bool) (f : ℕ) → g ≡ false → first_of ((11, a) ∷ (f, g) ∷ (9, k) ∷ (5, w) ∷ (6, o) ∷ (10, x) ∷ []) ≡ 0 → (o ≡ false) × (x ≡ false)
unfolding first_of
room true g k w o x f e n = let z : ◌≡◌ {A = ℕ} 11 0 = n in absurd (omega arith)
room false g true w o x f e n = let z : ◌≡◌ {A = ℕ} 9 0 = rw e at n in absurd (omega arith)
room false g false true o x f e n = let z : ◌≡◌ {A = ℕ} 5 0 = rw e at n in absurd (omega arith)
room false g false false true x f e n = let z : ◌≡◌ {A = ℕ} 6 0 = rw e at n in absurd (omega arith)
room false g false false false true f e n = let z : ◌≡◌ {A = ℕ} 10 0 = rw e at n in absurd (omega arith)
room false g false false false false f e n = (refl, refl)

module _ (axle : ℕ) (r : Reading) (k : Option Original) (c : Connection) (s : Switches) (out : List ℕ) (h : Hello) (e : r ≡ fields h) (n : server_number axle r k c s out ≡ 0) where
  abbrev reply : List ℕ
  reply = server_reply c s k (asked r)

  tests : (forbidden (server_outcome s k (asked r).ems) ≡ false) × (ltb (length out) (length reply) ≡ false)
  unfolding server_number
  tests = room (bad_axle axle) (faulty r) (closed c) (server_wrong c s (asked r).signal (asked r).ri) _ _ (fault_of r) (ap faulty e) n

  size : (server_decision axle r k c s out).reply_length ≡ length reply
  unfolding server_decision decision decided
  size = rw n (go (server_outcome s k (asked r).ems) tests.0)
    where
      go : (o : Option Outcome) → forbidden o ≡ false → (decision 0 (fault_place r) o (server_flag c (asked r)) (length reply)).reply_length ≡ length reply
      go none z = let y : ◌≡◌ {A = ℕ} 0 1 = cc in absurd (omega arith)
      go (some o) z = refl

  written : take (server_decision axle r k c s out).reply_length (server_output axle r k c s out) ≡ reply
  unfolding server_output
  written =
      rw (size, n, le-leb (length reply) (length out) (ltb-false (length out) (length reply) tests.1))
      (take_at reply (drop (length reply) out) (length reply) refl)

number_zero : (axle : ℕ) (r : Reading) (b : Book) (c : Connection) (s : Switches) (out out' : List ℕ) (d : Decision) → DecidedBy axle r b c s out d out' → d.refusal.number ≡ 0
    → server_number axle r (session_in axle r b) c s out ≡ 0
unfolding server_decision
number_zero axle r b c s out out' d q e = sym (decision_number _ _ _ _ _) ∙ sym (ap (λ (y : Decision). y.refusal.number) q.answer) ∙ e

pub reply_rule : ReplyRule
reply_rule t b axle c s s' h out out' m i l d d' x =
    let r = read_client h in
    let q = x.served.answers b x.keeps in
    let n : server_number axle r (session_in axle r b) c s out ≡ 0 = number_zero axle r b c s out out' d q x.accepts in
    let w : take d.reply_length out' ≡ server_reply c s (session_in axle r b) (asked r) =
    rw (q.answer, q.output) (written axle r (session_in axle r b) c s out x.asks x.reads n) in
    rw (q.answer, x.judged)
    (answers_agree axle b c s s' r out i l m
    (record {
      asks = x.asks;
      reads = x.reads;
      ours = x.ours;
      short = rw x.ours.identifier at (client_bounds h x.asks x.reads).identifier;
      shares = x.shares;
      accepts = sym (ap (λ (y : Decision). y.refusal.number) q.answer) ∙ x.accepts;
      answer = x.answer;
      answered = x.answered;
      carries = x.carries ∙ w;
      repeats = λ z. x.repeats z ∙ ap (λ (y : Decision). yes y.resumes) q.answer;
      suite = λ z. x.suite (ap (λ (y : Decision). yes y.resumes) q.answer ∙ z);
    }))
