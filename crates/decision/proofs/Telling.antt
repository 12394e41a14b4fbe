-- The client's numbers in their order: each way out is the first test that holds.
-- Assumes nothing.
use mathlib.Core.Path.{◌≡◌, refl, sym, ◌∙◌, ap}
use mathlib.Core.Bool.{Bool, true, false, true≢false}
use mathlib.Core.List.{List, [], ◌∷◌}
use mathlib.Core.Option.{Option, none, some}
use Prim.Native.Nat.{ℕ, ◌≤◌}
use native.Mathlib.Omega.{arith}
use lib.ListN.{length}
use borrow.Author.Tests.{eq-eqb, ne_eqb, eqb-true, eqb-false, le-ltb, ltb-false}
use lib.Dec.{ltb}
use Rattle.seqs.specs.Pick.{pick}
use Rattle.seqs.specs.Cases.{by_test, or_right}
use Rattle.refusal.specs.First.{first_of}
use Rattle.refusal.specs.Table.{refusal_of, refusal_at}
use Rattle.refusal.specs.Listed.{anywhere}
use Rattle.octets.specs.Same.{same}
use Rattle.refusal.specs.declared.Refusal.{Refusal}
use Rattle.refusal.specs.Reason.{number_for, refusal_for}
use Rattle.refusal.specs.declared.reason.Reason.{Reason}
use Rattle.refusal.specs.declared.reason.Reason.TheVariants.{NotOffered, NoSecret, Name, Suite}
use Rattle.std.specs.Prelude as std
use Rattle.std.specs.Prelude.{Ok, Err}
use Rattle.hello.specs.Fields.{Hello, Reading, fields}
use Rattle.hello.proofs.Learnt.{Faulted}
use Rattle.decision.specs.Connection.{closed, Outcome, forbidden, refusing, refused_by, decided, decision}
use Rattle.decision.specs.Server.{fault_place, Original}
use Rattle.decision.specs.Client.{Told, told, Lent, bears, is_empty, weighed_of, bad_offer, client_wrong, client_flag, client_resumes, suite_differs, client_outcome, client_number, client_decision}
use Rattle.decision.specs.Steps.{client_indication, told_number, client_plain, original_in, lent_in, session_lent, offered_session, Offers, weighed_of_offered, of_another_suite, client_reaches}
use Rattle.decision.specs.declared.connection.Connection.{Connection}
use Rattle.decision.specs.declared.connection.Switches.{Switches}
use Rattle.decision.specs.declared.connection.Decision.{Decision}
use Rattle.decision.specs.declared.client.Lent as lent
use Rattle.sessions.specs.declared.row.Weighed.{Weighed}
use Rattle.sessions.proofs.Reasons.{reason_some, bare_row}
use Rattle.decision.proofs.Turns.{client_bare}
use Rattle.decision.proofs.Judging.{decision_refused}

-- the offer
module _ (i : List ℕ) (l : std.Option lent.Lent) where
  pub offered_none : true ≡ is_empty i → Ok std.None ≡ offered_session i l
  unfolding offered_session bad_offer
  offered_none h =
      let z : length i ≡ 0 = eqb-true (length i) 0 (sym h) in
      rw (le-ltb 32 (length i) (omega arith), ← h)

  pub offered_bad : false ≡ is_empty i → (length i ≤ 32 → bears (lent_in l) i ≡ true → ⊥) → Err Name ≡ offered_session i l
  unfolding offered_session bad_offer
  offered_bad h b =
      by_test (ltb 32 (length i))
      (λ y. rw y)
      (λ n.
      by_test (bears (lent_in l) i)
      (λ x. absurd (b (ltb-false 32 (length i) n) x))
      (λ x. rw (n, ← h, x)))

  pub offered_good : false ≡ is_empty i → length i ≤ 32 → bears (lent_in l) i ≡ true → Ok (session_lent l) ≡ offered_session i l
  unfolding offered_session bad_offer
  offered_good h k x = rw (le-ltb 32 (length i) k, ← h, x)

  pub offered_refused : (e : Reason) → Err e ≡ offered_session i l → (e ≡ Name) × (bad_offer i (lent_in l) ≡ true)
  unfolding offered_session
  offered_refused e q =
      by_test (bad_offer i (lent_in l))
      (λ y. let f : Err e ≡ Err Name = rw y at q in (cc, y))
      (λ n. let f : Err e ≡ Ok (pick (is_empty i) std.None (session_lent l)) = rw n at q in cc)

-- what is learnt of a good offer
pub record Learnt (i : List ℕ) (l : Option Lent) (k : Option Original) : Type 0 where
  pub good : bad_offer i l ≡ false
  pub offers : Offers i k
  -- where nothing is offered, nothing that is lent is weighed
  pub weighed : (c : Connection) (s : Switches) (t : Told) → client_plain c s i (weighed_of_offered k) t ≡ client_plain c s i (weighed_of l) t

-- nothing is offered: what is weighed of a session counts for nothing
unasked : (i : List ℕ) (e f : Original) → length i ≡ 0 → (c : Connection) (s : Switches) (t : Told) → client_plain c s i e t ≡ client_plain c s i f t
unfolding client_plain told_number client_outcome suite_differs client_resumes
unasked i e f h c s t = rw (eq-eqb (length i) 0 h)

bearing : (i : List ℕ) (l : std.Option lent.Lent) → bad_offer i (lent_in l) ≡ false → (length i ≡ 0 → ⊥) → Learnt i (lent_in l) (original_in (session_lent l))
unfolding bad_offer
bearing i std.None g h = let z : true ≡ false = rw (ne_eqb (length i) 0 h) at (or_right (ltb 32 (length i)) _ g) in absurd (true≢false z)
bearing i (std.Some l) g h = record { good = g; offers = h; weighed = λ c s t. refl }

pub offered_learnt : (i : List ℕ) (l : std.Option lent.Lent) (k : std.Option Weighed) → Ok k ≡ offered_session i l → Learnt i (lent_in l) (original_in k)
unfolding offered_session
offered_learnt i l k e =
    by_test (bad_offer i (lent_in l))
    (λ y. let f : Ok k ≡ Err Name = rw y at e in cc)
    (λ n.
    let f : Ok k ≡ Ok (pick (is_empty i) std.None (session_lent l)) = rw n at e in
    let g : k ≡ pick (is_empty i) std.None (session_lent l) = cc in
    by_test (is_empty i)
    (λ p.
    let h : k ≡ std.None = rw p at g in
    let z = eqb-true (length i) 0 p in
    rw h (record { good = n; offers = z; weighed = unasked i _ _ z }))
    (λ p. let h : k ≡ session_lent l = rw p at g in rw h (bearing i l n (eqb-false (length i) 0 p))))

-- where it resumes: k is the session that bears what is offered, and r is what is left of it where the server names that
module _ (i : List ℕ) (t : Told) where
  pub suite_is : (k r : Option Original) → Offers i k → r ≡ pick (same t.identifier i) k none → suite_differs i (weighed_of_offered k) t ≡ of_another_suite r t.suite
  unfolding suite_differs client_resumes
  suite_is none r o e = by_test (same t.identifier i) (λ y. rw (e, y, eq-eqb (length i) 0 o)) (λ n. rw (e, n, eq-eqb (length i) 0 o))
  suite_is (some k) r o e = by_test (same t.identifier i) (λ y. rw (e, y, ne_eqb (length i) 0 o)) (λ n. rw (e, n, ne_eqb (length i) 0 o))

  pub outcome_is : (s : Switches) (k r : Option Original) → Offers i k → r ≡ pick (same t.identifier i) k none
      → client_outcome s i (weighed_of_offered k) t ≡ client_reaches s r t.ems
  unfolding client_outcome client_resumes
  outcome_is s none r o e = by_test (same t.identifier i) (λ y. rw (e, y, eq-eqb (length i) 0 o)) (λ n. rw (e, n, eq-eqb (length i) 0 o))
  outcome_is s (some k) r o e = by_test (same t.identifier i) (λ y. rw (e, y, ne_eqb (length i) 0 o)) (λ n. rw (e, n, ne_eqb (length i) 0 o))

module _ (c : Connection) (s : Switches) (i : List ℕ) (e : Original) (t : Told) where
  refusal_of_lem : (n : ℕ) {d : Decision} → told_number c s i e t ≡ n → (n ≡ 0 → ⊥) → d ≡ refusing (refusal_of n) → d ≡ client_plain c s i e t
  unfolding client_plain refused_by refusal_of
  refusal_of_lem n p h q = rw p (q ∙ sym (decision_refused n 0 _ _ _ h))

  pub told_others : t.others ≡ true → refusing (refusal_for NotOffered) ≡ client_plain c s i e t
  unfolding told_number first_of refusal_of
  told_others h = refusal_of_lem 4 (rw h) (λ z. omega arith) refl

  module _ (known : t.others ≡ false) where
    stopped : (client_indication c s t.ri ≡ 0 → ⊥) → told_number c s i e t ≡ client_indication c s t.ri
    unfolding told_number client_indication client_wrong first_of
    stopped h =
        by_test (closed c)
        (λ x. rw (known, x))
        (λ x.
        by_test (client_wrong c s t.ri)
        (λ y. rw (known, x, y))
        (λ y. absurd (h (rw (x, y)))))

    pub told_turn : (x : Reason) → number_for x ≡ client_indication c s t.ri → refusing (refusal_for x) ≡ client_plain c s i e t
    told_turn x p =
        let n = client_indication c s t.ri in
        let some_number : n ≡ 0 → ⊥ = λ z. reason_some x (p ∙ z) in
        refusal_of_lem n (stopped some_number) some_number (ap refusing (bare_row x n p (client_bare c s t.ri)))

    past : client_indication c s t.ri ≡ 0 → told_number c s i e t ≡ first_of ((12, suite_differs i e t) ∷ (6, forbidden (client_outcome s i e t)) ∷ [])
    unfolding told_number client_indication client_wrong first_of
    past p =
        by_test (closed c)
        (λ x. let z : ◌≡◌ {A = ℕ} 7 0 = rw x at p in absurd (omega arith))
        (λ x.
        by_test (client_wrong c s t.ri)
        (λ y. let z : ◌≡◌ {A = ℕ} 5 0 = rw (x, y) at p in absurd (omega arith))
        (λ y. rw (known, x, y)))

    module _ (turn : client_indication c s t.ri ≡ 0) where
      pub told_suite : suite_differs i e t ≡ true → refusing (refusal_for Suite) ≡ client_plain c s i e t
      unfolding first_of refusal_of
      told_suite x = refusal_of_lem 12 (past turn ∙ (rw x)) (λ z. omega arith) refl

      pub told_six : suite_differs i e t ≡ false → client_outcome s i e t ≡ none → refusing (refusal_for NoSecret) ≡ client_plain c s i e t
      unfolding first_of refusal_of
      told_six u o = refusal_of_lem 6 (past turn ∙ (rw (u, o))) (λ z. omega arith) refl

      pub told_done : {o : Outcome} {flag : Bool} → suite_differs i e t ≡ false → client_outcome s i e t ≡ some o → flag ≡ client_flag c t
          → decided o flag 0 ≡ client_plain c s i e t
      unfolding client_plain first_of decision
      told_done u o f = rw (past turn, u, o, f)

-- the whole decision, from the reading on
module _ (r : Reading) (i : List ℕ) (l : Option Lent) (c : Connection) (s : Switches) where
  whole_refusal : (n : ℕ) {d : Decision} → client_number r i l c s ≡ n → (n ≡ 0 → ⊥) → d ≡ refusing (refusal_at n (fault_place r)) → d ≡ client_decision r i l c s
  unfolding client_decision refused_by
  whole_refusal n p h q = rw p (q ∙ sym (decision_refused n (fault_place r) _ _ _ h))

  pub decide_offer : bad_offer i l ≡ true → refusing (refusal_for Name) ≡ client_decision r i l c s
  unfolding client_number first_of
  decide_offer h = whole_refusal 11 (rw h) (λ z. omega arith) (ap refusing (bare_row Name 11 refl refl ∙ anywhere 11 (fault_place r) refl))

  pub decide_fault : {x : Refusal} → bad_offer i l ≡ false → Faulted r x → refusing x ≡ client_decision r i l c s
  unfolding client_number first_of
  decide_fault h f = whole_refusal f.number (rw (h, f.reading)) f.some (ap refusing (f.refusal ∙ ap (refusal_at f.number) (sym (ap fault_place f.reading))))

  pub decide_told : {d : Decision} {h : Hello} → bad_offer i l ≡ false → r ≡ fields h → d ≡ client_plain c s i (weighed_of l) (told r) → d ≡ client_decision r i l c s
  unfolding client_number client_decision client_plain told_number client_outcome first_of
  decide_told o f q = q ∙ (rw (o, f))
