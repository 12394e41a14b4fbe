-- The server's whole decision: the axle, the reading, the session, and what is decided on them.
-- Assumes nothing.
use mathlib.Core.Path.{◌≡◌, refl, sym, ◌∙◌, ap, ap₂, subst}
use mathlib.Core.Bool.{Bool, true, false}
use mathlib.Core.List.{List, []}
use mathlib.Core.Option.{Option, none, some}
use Prim.Native.Nat.{ℕ}
use native.Mathlib.Omega.{arith}
use lib.Dec.{eqb}
use lib.ListN.{length}
use borrow.Author.Tests.{eq-eqb, ne_eqb, eqb-true}
use Rattle.seqs.specs.Cases.{by_test}
use Rattle.seqs.proofs.Flag.{yes_bit}
use Rattle.refusal.specs.First.{first_of}
use Rattle.refusal.specs.Table.{refusal_at}
use Rattle.refusal.specs.Listed.{number_at, row_number, anywhere}
use Rattle.refusal.specs.Reason.{refusal_for}
use Rattle.refusal.specs.declared.reason.Reason.TheVariants.{Name}
use Rattle.sessions.proofs.Reasons.{bare_row}
use Rattle.refusal.specs.declared.Refusal.{Refusal}
use Rattle.sessions.specs.Book.{Session, Book, sought, bad_axle}
use Rattle.sessions.specs.Promises.{known_of, Knows}
use Rattle.sessions.specs.declared.table.Table.{Table}
use Rattle.sessions.specs.declared.row.Weighed.{Weighed}
use Rattle.std.specs.Prelude as std
use Rattle.hello.specs.Fields.{Hello, Reading, fields, lists}
use Rattle.hello.proofs.Learnt.{Faulted}
use Rattle.decision.specs.Connection.{Outcome, refusing, refused_by, decided, decision}
use Rattle.decision.specs.Server.{asked, fault_place, Original, original_of, on_offer, session_in, server_number, server_decision, server_output, DecidedBy, ServerDecides}
use Rattle.decision.specs.Steps.{plain_number, Plain, weighed_in, original_in, SessionIs}
use Rattle.std.specs.Bool.{then_some}
use Rattle.decision.specs.declared.connection.Connection.{Connection}
use Rattle.decision.specs.declared.connection.Switches.{Switches}
use Rattle.decision.specs.declared.connection.Decision.{Decision}
use Rattle.decision.proofs.Judging.{decision_refused}

-- the session
known_original : (o : Option Session) → original_in (known_of o) ≡ original_of o
known_original none = refl
known_original (some s) = rw (yes_bit s.ems)

module _ (t : Table) (axle : ℕ) (r : Reading) (f : Hello) (e : r ≡ fields f) where
  pub session_none : length f.identifier ≡ 0 → SessionIs t axle r std.None
  unfolding session_in
  session_none h =
      record {
        book = [];
        of_book = rw (e, eq-eqb (length f.identifier) 0 h);
        answers = λ b k. rw (e, eq-eqb (length f.identifier) 0 h);
      }

  looked : (length f.identifier ≡ 0 → ⊥) → (b : Book) → session_in axle r b ≡ on_offer f.suites (original_of (sought axle f.identifier b))
  unfolding session_in
  looked h b = rw (e, ne_eqb (length f.identifier) 0 h)

  -- the session k that is known, and k', which is left of it where it is on offer
  pub session_found : (length f.identifier ≡ 0 → ⊥) → (i u : List ℕ) (k k' : std.Option Weighed) → i ≡ f.identifier → u ≡ f.suites → Knows t axle i k
      → original_in k' ≡ on_offer u (original_in k) → SessionIs t axle r k'
  session_found h i u k k' q v w o = record { book = w.book; of_book = from w.book w.of_book; answers = λ b x. from b (w.answers b x) }
    where
      from : (b : Book) → k ≡ known_of (sought axle i b) → original_in k' ≡ session_in axle r b
      from b x =
          o
          ∙ ap₂ on_offer v (ap original_in x ∙ known_original (sought axle i b) ∙ ap (λ (y : List ℕ). original_of (sought axle y b)) q)
          ∙ sym (looked h b)

-- a session is on offer where its suite is listed
pub listed : (suites : List ℕ) (w : Weighed) {b : Bool} → b ≡ lists w.suite suites → original_in (then_some b w) ≡ on_offer suites (some (weighed_in w))
unfolding on_offer
listed suites w e = rw e (by_test (lists w.suite suites) (λ y. rw y) (λ n. rw n))

-- a decision bears its number
pub decision_number : (n p : ℕ) (o : Option Outcome) (flag : Bool) (size : ℕ) → (decision n p o flag size).refusal.number ≡ n
unfolding decision decided refused_by
decision_number n p none flag size = number_at n p
decision_number n p (some o) flag size =
    by_test (eqb n 0)
    (λ e. rw e (row_number 0 ∙ sym (eqb-true n 0 e)))
    (λ e. rw e (number_at n p))

module _ (t : Table) (axle : ℕ) (r : Reading) (c : Connection) (s : Switches) (out : List ℕ) where
  -- refused before the session is looked up
  early : (n : ℕ) {d : Decision} → ((k : Option Original) → server_number axle r k c s out ≡ n) → (n ≡ 0 → ⊥) → d ≡ refusing (refusal_at n (fault_place r))
      → ServerDecides t axle r c s out d out
  unfolding server_decision server_output refused_by
  early n {d} e h q = record { book = []; of_book = of []; refused = λ z. refl; answers = λ b k. of b }
    where
      of : (b : Book) → DecidedBy axle r b c s out d out
      of b =
          record {
            answer = rw (e (session_in axle r b)) (q ∙ sym (decision_refused n (fault_place r) _ _ _ h));
            output = rw (e (session_in axle r b), ne_eqb n 0 h);
          }

  pub server_axle : bad_axle axle ≡ true → ServerDecides t axle r c s out (refusing (refusal_for Name)) out
  unfolding server_number first_of
  server_axle h = early 11 (λ k. rw h) (λ z. omega arith) (ap refusing (bare_row Name 11 refl refl ∙ anywhere 11 (fault_place r) refl))

  pub server_faulted : {x : Refusal} → bad_axle axle ≡ false → Faulted r x → ServerDecides t axle r c s out (refusing x) out
  unfolding server_number first_of
  server_faulted h f = early f.number (λ k. rw (h, f.reading)) f.some (ap refusing (f.refusal ∙ ap (refusal_at f.number) (sym (ap fault_place f.reading))))

  -- on a hello that was read the number is that of the plain values
  read_number : {h : Hello} (y : Option Original) → bad_axle axle ≡ false → r ≡ fields h → server_number axle r y c s out ≡ plain_number c s y out (asked r)
  unfolding server_number plain_number first_of
  read_number y g e = rw (g, e)

  plain_kept : {d : Decision} {o : List ℕ} (x : Option Original) → Plain c s x out (asked r) d o → (d.refusal.number ≡ 0 → ⊥) → o ≡ out
  plain_kept x p z =
      by_test (eqb (plain_number c s x out (asked r)) 0)
      (λ q. absurd (z (ap (λ (y : Decision). y.refusal.number) p.answer ∙ decision_number _ _ _ _ _ ∙ eqb-true _ 0 q)))
      (λ q. p.output ∙ (rw q))

  pub server_judged : {d : Decision} {o : List ℕ} {h : Hello} (k : std.Option Weighed) → bad_axle axle ≡ false → r ≡ fields h → SessionIs t axle r k
      → Plain c s (original_in k) out (asked r) d o → ServerDecides t axle r c s out d o
  unfolding server_decision server_output
  server_judged {d} {o} k g e w p =
      record { book = w.book; of_book = of w.book w.of_book; refused = plain_kept (original_in k) p; answers = λ b y. of b (w.answers b y) }
    where
      of : (b : Book) → original_in k ≡ session_in axle r b → DecidedBy axle r b c s out d o
      of b y =
          let v = subst (λ (u : Option Original). Plain c s u out (asked r) d o) y p in
          record {
            answer = rw (read_number (session_in axle r b) g e, ap fault_place e) v.answer;
            output = rw (read_number (session_in axle r b) g e) v.output;
          }
