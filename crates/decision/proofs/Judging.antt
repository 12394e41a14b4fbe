-- The server's numbers in their order: each way out is the first test that holds.
-- Assumes nothing.
use mathlib.Core.Path.{◌≡◌, refl, sym, ◌∙◌, ap, subst}
use mathlib.Core.Bool.{Bool}
use mathlib.Core.List.{List, [], ◌∷◌}
use mathlib.Core.Option.{Option, none, some}
use Prim.Native.Nat.{ℕ, ◌≤◌, ◌<◌}
use native.Mathlib.Omega.{arith}
use lib.Dec.{leb, ltb}
use lib.ListN.{length}
use borrow.Author.Tests.{ne_eqb, leb-true, leb-false, lt-ltb, le-ltb}
use Rattle.seqs.specs.Cases.{by_test}
use Rattle.refusal.specs.First.{first_of}
use Rattle.refusal.specs.Table.{refusal_of}
use Rattle.refusal.specs.Reason.{number_for, refusal_for}
use Rattle.refusal.specs.declared.reason.Reason.{Reason}
use Rattle.refusal.specs.declared.reason.Reason.TheVariants.{NoSecret}
use Rattle.sessions.proofs.Reasons.{reason_some, bare_row}
use Rattle.decision.proofs.Turns.{server_bare}
use Rattle.octets.specs.Put.{put_list, put_number}
use Rattle.decision.specs.Connection.{closed, Outcome, forbidden, refusing, refused_by, decided, decision}
use Rattle.decision.specs.Reply.{reply_of}
use Rattle.decision.specs.Server.{Asked, Original, server_wrong, server_flag, server_outcome, server_reply}
use Rattle.decision.specs.Steps.{server_indication, plain_number, Plain}
use Rattle.decision.specs.declared.connection.Connection.{Connection}
use Rattle.decision.specs.declared.connection.Switches.{Switches}
use Rattle.decision.specs.declared.connection.Decision.{Decision}

-- a number other than 0 is a refusal, whatever the outcome would have been
pub decision_refused : (n p : ℕ) (o : Option Outcome) (flag : Bool) (size : ℕ) → (n ≡ 0 → ⊥) → decision n p o flag size ≡ refused_by n p
unfolding decision
decision_refused n p none flag size h = refl
decision_refused n p (some o) flag size h = rw (ne_eqb n 0 h)

module _ (c : Connection) (s : Switches) (k : Option Original) (out : List ℕ) (a : Asked) where
  -- the number where the indication is right
  past : server_indication c s a.signal a.ri ≡ 0
      → plain_number c s k out a ≡ first_of ((6, forbidden (server_outcome s k a.ems)) ∷ (10, ltb (length out) (length (server_reply c s k a))) ∷ [])
  unfolding server_indication plain_number server_wrong first_of
  past e =
      by_test (closed c)
      (λ p. let z : ◌≡◌ {A = ℕ} 9 0 = rw p at e in absurd (omega arith))
      (λ p.
      by_test (server_wrong c s a.signal a.ri)
      (λ q. let z : ◌≡◌ {A = ℕ} 5 0 = rw (p, q) at e in absurd (omega arith))
      (λ q. rw (p, q)))

  stopped : (n : ℕ) → server_indication c s a.signal a.ri ≡ n → (n ≡ 0 → ⊥) → plain_number c s k out a ≡ n
  unfolding server_indication plain_number server_wrong first_of
  stopped n e h =
      by_test (closed c)
      (λ p. rw p (rw p at e))
      (λ p.
      by_test (server_wrong c s a.signal a.ri)
      (λ q. rw (p, q) (rw (p, q) at e))
      (λ q. absurd (h (sym (rw (p, q) at e)))))

  refusal_of_lem : (n : ℕ) {d : Decision} → plain_number c s k out a ≡ n → (n ≡ 0 → ⊥) → d ≡ refusing (refusal_of n) → Plain c s k out a d out
  unfolding refused_by refusal_of
  refusal_of_lem n e h q =
      record {
        answer = rw e (q ∙ sym (decision_refused n 0 _ _ _ h));
        output = rw (e, ne_eqb n 0 h);
      }

  pub plain_turn : (e : Reason) → number_for e ≡ server_indication c s a.signal a.ri → Plain c s k out a (refusing (refusal_for e)) out
  plain_turn e h =
      let n = server_indication c s a.signal a.ri in
      let some_number : n ≡ 0 → ⊥ = λ z. reason_some e (h ∙ z) in
      refusal_of_lem n (stopped n refl some_number) some_number (ap refusing (bare_row e n h (server_bare c s a.ri a.signal)))

  module _ (turn : server_indication c s a.signal a.ri ≡ 0) where
    pub plain_six : server_outcome s k a.ems ≡ none → Plain c s k out a (refusing (refusal_for NoSecret)) out
    unfolding first_of refusal_of
    plain_six f = refusal_of_lem 6 (past turn ∙ (rw f)) (λ z. omega arith) refl

    module _ (o : Outcome) (found : server_outcome s k a.ems ≡ some o) (b : List ℕ) (reply : b ≡ server_reply c s k a) (out' : List ℕ) (written : out' ≡ put_list out b) where
      pub plain_short : (e : Reason) → number_for e ≡ put_number out b → Plain c s k out a (refusing (refusal_for e)) out'
      unfolding first_of
      plain_short e number =
          by_test (leb (length b) (length out))
          (λ p. absurd (reason_some e (number ∙ (rw p))))
          (λ p.
          let w : out' ≡ out = written ∙ (rw p) in
          let l : length out < length (server_reply c s k a) = rw reply at (leb-false (length b) (length out) p) in
          rw w (refusal_of_lem 10 (past turn ∙ (rw (found, lt-ltb (length out) (length (server_reply c s k a)) l))) (λ z. omega arith) (ap refusing (bare_row e 10 (number ∙ (rw p)) refl))))

      pub plain_done : {flag : Bool} {size : ℕ} → 0 ≡ put_number out b → flag ≡ server_flag c a → size ≡ length b → Plain c s k out a (decided o flag size) out'
      unfolding first_of decision
      plain_done number f g =
          by_test (leb (length b) (length out))
          (λ p.
          let l : length (server_reply c s k a) ≤ length out = rw reply at (leb-true (length b) (length out) p) in
          let e : plain_number c s k out a ≡ 0 = past turn ∙ (rw (found, le-ltb (length out) (length (server_reply c s k a)) l)) in
          record {
            answer = rw (e, found, f, g, reply);
            output = rw (e, ← reply) written;
          })
          (λ p. let m : ◌≡◌ {A = ℕ} 0 10 = number ∙ (rw p) in absurd (omega arith))

-- the reply, from what the helpers answer
pub reply_is : (c : Connection) (s : Switches) (k : Option Original) (a : Asked) {flag : Bool} {o : Outcome} → flag ≡ server_flag c a → server_outcome s k a.ems ≡ some o
    → reply_of c flag o.ems ≡ server_reply c s k a
unfolding server_reply
reply_is c s k a f o = rw (f, o)

-- the same hello
pub plain_same : {c : Connection} {s : Switches} {k : Option Original} {out : List ℕ} {a a' : Asked} {d : Decision} {o : List ℕ}
    → a ≡ a' → Plain c s k out a d o → Plain c s k out a' d o
plain_same {c} {s} {k} {out} {d = d} {o = o} e p = subst (λ (x : Asked). Plain c s k out x d o) e p
