-- The reply rule: what our server accepts and answers, our client accepts, with the same outcome.
-- Assumes nothing.
use mathlib.Core.Path.{◌≡◌, refl, sym, ◌∙◌, ap, ap₂, subst}
use mathlib.Core.Bool.{Bool, true, false, not, ◌&&◌, ◌||◌}
use mathlib.Core.List.{List, [], ◌∷◌, ◌++◌}
use mathlib.Core.Logic.{◌⊎◌, inl, inr, ⊎_elim}
use mathlib.Core.Option.{Option, none, some}
use Prim.Native.Nat.{ℕ, ◌≤◌}
use native.Mathlib.Omega.{arith}
use lib.Dec.{eqb}
use lib.ListN.{length}
use borrow.Author.Tests.{eq-eqb, ne_eqb, eqb-false, le-ltb}
use Rattle.seqs.specs.Pick.{pick}
use Rattle.seqs.specs.Flag.{yes}
use Rattle.seqs.proofs.Flag.{yes_bit}
use Rattle.seqs.specs.Cases.{by_test}
use Rattle.refusal.specs.First.{first_of}
use Rattle.octets.specs.Same.{same}
use Rattle.octets.specs.Equal.{same_refl}
use Rattle.sessions.specs.Book.{Book, sought, bad_axle}
use Rattle.hello.specs.Extensions.{Extension, has, content_of, indication_of, ems_of, others_of}
use Rattle.hello.specs.Layout.{big}
use Rattle.hello.specs.Fields.{Hello, Reading, fields, lists, read_server}
use Rattle.hello.specs.Written.{behind_method, ri_holding, ems_extension, written_block, Shaped}
use Rattle.hello.proofs.Reread.{carried, ri_shaped, ems_shaped}
use Rattle.decision.specs.Connection.{later, closed, wrong_first, Outcome, full_ems, resumed_ems, uses_ems, decided, decision}
use Rattle.decision.specs.Reply.{reply_list, reply_of, offer_of, offer_turned}
use Rattle.decision.specs.Server.{Asked, asked, faulty, Original, original_of, on_offer, session_in, server_flag, resumable, server_outcome, server_reply, server_number, server_decision}
use Rattle.decision.specs.Client.{Told, told, Lent, weighed_of, bad_offer, client_wrong, client_flag, client_resumes, suite_differs, resumption, fullness, client_outcome, client_number, client_decision}
use Rattle.decision.specs.Agreement.{OurHello, SameSession, Agree}
use Rattle.decision.specs.declared.connection.Connection.{Connection}
use Rattle.decision.specs.declared.connection.Switches.{Switches}
use Rattle.decision.specs.declared.connection.Decision.{Decision}
use Rattle.decision.proofs.Serving.{decision_number}

-- ---- what our own hello asks: RI with what the offer holds, EMS, and no signal

offer_says : (c : Connection) → (indication_of (offer_of c) ≡ some (pick (later c) c.client [])) × (ems_of (offer_of c) ≡ true)
unfolding offer_of indication_of content_of has
offer_says c = (refl, refl)

turned_says : (c : Connection) → (indication_of (offer_turned c) ≡ some (pick (later c) c.client [])) × (ems_of (offer_turned c) ≡ true)
unfolding offer_turned indication_of content_of has
turned_says c = (refl, refl)

offered : (c : Connection) (i : List ℕ) (h : Hello) → OurHello c i h
    → (indication_of h.extensions ≡ some (pick (later c) c.client [])) × (ems_of h.extensions ≡ true)
offered c i h o =
    ⊎_elim
    (λ e. subst (λ (x : List Extension). (indication_of x ≡ some (pick (later c) c.client [])) × (ems_of x ≡ true)) (sym e) (offer_says c))
    (λ e. subst (λ (x : List Extension). (indication_of x ≡ some (pick (later c) c.client [])) × (ems_of x ≡ true)) (sym e) (turned_says c))
    o.extensions

-- ---- what the reply tells: RI with what it holds, EMS, and nothing else

abbrev held : Connection → List ℕ
held c = pick (later c) (c.client ++ c.server) []

abbrev replied : Connection → List Extension
replied c = ri_holding (held c) ∷ ems_extension ∷ []

reply_is : (c : Connection) → reply_of c true true ≡ written_block (replied c)
unfolding reply_of reply_list
reply_is c = refl

reply_says : (c : Connection) → (indication_of (replied c) ≡ some (held c)) × (ems_of (replied c) ≡ true) × (others_of (replied c) ≡ false)
unfolding indication_of content_of has others_of
reply_says c = (refl, refl, refl)

reply_shaped : (c : Connection) → Shaped (replied c)
reply_shaped c = (ri_shaped (held c), (ems_shaped, tt))

-- ---- the client's tests, on what the reply tells

module _ (c : Connection) (s : Switches) (t : Told) (ri : t.ri ≡ some (held c)) where
  right : client_wrong c s t.ri ≡ false
  unfolding client_wrong wrong_first
  right = rw ri (go (later c))
    where
      go : (x : Bool) → pick x (not (same (pick x (c.client ++ c.server) []) (c.client ++ c.server))) (not (same (pick x (c.client ++ c.server) []) [])) ≡ false
      go true = rw (same_refl (c.client ++ c.server))
      go false = rw (same_refl [])

  flagged : client_flag c t ≡ true
  unfolding client_flag
  flagged = rw ri (go (later c))
    where
      go : (x : Bool) → pick x true true ≡ true
      go true = refl
      go false = refl

-- ---- the two decisions, each from its outcome

abbrev Comes : Option Outcome → Outcome → Type 0
Comes x o = x ≡ some o

decision_of : (n p : ℕ) (x : Option Outcome) (o : Outcome) (flag : Bool) (size : ℕ) → n ≡ 0 → x ≡ some o → flag ≡ true → decision n p x flag size ≡ decided o true size
unfolding decision
decision_of n p x o flag size e f g = rw (e, f, g)

module _ (axle : ℕ) (b : Book) (c : Connection) (s : Switches) (r : Reading) (out : List ℕ) (k : Option Original) where
  -- a server that accepts is not closed
  open_still : (h : Hello) → r ≡ fields h → server_number axle r k c s out ≡ 0 → closed c ≡ false
  unfolding server_number first_of
  open_still h e n =
      by_test (bad_axle axle)
      (λ p. let z : ◌≡◌ {A = ℕ} 11 0 = rw p at n in absurd (omega arith))
      (λ p.
      by_test (closed c)
      (λ q. let z : ◌≡◌ {A = ℕ} 9 0 = rw (p, e, q) at n in absurd (omega arith))
      (λ q. q))

  number_zero : (server_decision axle r k c s out).refusal.number ≡ 0 → server_number axle r k c s out ≡ 0
  unfolding server_decision
  number_zero e = sym (decision_number _ _ _ _ _) ∙ e

-- EMS is always used, since our hello has it
outcome_ems : (s : Switches) (k : Option Original)
    → (server_outcome s k true ≡ some full_ems) ⊎ ((o : Original) × (k ≡ some o) × (o.ems ≡ true) × (server_outcome s k true ≡ some resumed_ems))
unfolding server_outcome resumable
outcome_ems s none = inl refl
outcome_ems s (some k) = by_test k.ems (λ p. inr (k, refl, p, rw p)) (λ p. inl (rw p))

-- the client's outcome, where the server's is o
module _ (s' : Switches) (i : List ℕ) (l : Option Lent) (t : Told) (ems : t.ems ≡ true) where
  client_full : client_resumes i t ≡ false → client_outcome s' i (weighed_of l) t ≡ some full_ems
  unfolding client_outcome fullness
  client_full h = rw (h, ems)

  client_resumed : client_resumes i t ≡ true → (weighed_of l).ems ≡ true → client_outcome s' i (weighed_of l) t ≡ some resumed_ems
  unfolding client_outcome resumption
  client_resumed h k = rw (h, ems, k)

-- the client's number is 0
client_zero : (c : Connection) (s' : Switches) (r : Reading) (h : Hello) (i : List ℕ) (l : Option Lent) (o : Outcome) → r ≡ fields h → bad_offer i l ≡ false
    → (told r).others ≡ false → closed c ≡ false → client_wrong c s' (told r).ri ≡ false → suite_differs i (weighed_of l) (told r) ≡ false
    → client_outcome s' i (weighed_of l) (told r) ≡ some o → client_number r i l c s' ≡ 0
unfolding client_number first_of
client_zero c s' r h i l o e f g k w u q =
    let y : faulty r ≡ false = ap faulty e in
    rw (f, y, g, k, w, u, q)

pub no_session : (o : Original) → ◌≡◌ {A = Option Original} none (some o) → ⊥
no_session o q = let z : ◌≡◌ {A = ℕ} 0 1 = cc in omega arith

-- what is on offer of a session is that session
abbrev held_in : Original → Option Original → Original
held_in d none = d
held_in d (some k) = k

on_offer_lem : (suites : List ℕ) (k o : Original) → on_offer suites (some k) ≡ some o → k ≡ o
unfolding on_offer
on_offer_lem suites k o e =
    by_test (lists k.suite suites)
    (λ p. ap (held_in k) (rw p at e))
    (λ p. absurd (no_session o (rw p at e)))

-- ---- the rule, over the definitions alone: r is the server's reading, and the ServerHello m carries the reply of the definition

pub record Answers (axle : ℕ) (b : Book) (c : Connection) (s : Switches) (r : Reading) (out : List ℕ) (i : List ℕ) (l : Option Lent) (m : List ℕ) : Type 0 where
  pub asks : Hello
  pub reads : r ≡ fields asks
  pub ours : OurHello c i asks
  pub short : length i ≤ 32
  pub shares : SameSession axle b i l
  pub accepts : (server_decision axle r (session_in axle r b) c s out).refusal.number ≡ 0
  pub answer : Hello
  pub answered : read_server m ≡ fields answer
  pub carries : behind_method m answer ≡ server_reply c s (session_in axle r b) (asked r)
  pub repeats : (length i ≡ 0 → ⊥) → same answer.identifier i ≡ yes (server_decision axle r (session_in axle r b) c s out).resumes
  pub suite : yes (server_decision axle r (session_in axle r b) c s out).resumes ≡ true → big answer.suites ≡ shares.original.suite

flag_set : (c : Connection) (a : Asked) (v : List ℕ) → a.ri ≡ some v → server_flag c a ≡ true
unfolding server_flag
flag_set c a v e = rw e (go (later c) a.signal)
  where
    go : (x y : Bool) → pick x true (y || true) ≡ true
    go true y = refl
    go false true = refl
    go false false = refl

module _ (axle : ℕ) (b : Book) (c : Connection) (s s' : Switches) (r : Reading) (out i : List ℕ) (l : Option Lent) (m : List ℕ) (x : Answers axle b c s r out i l m) where
  abbrev session : Option Original
  session = session_in axle r b

  zero : server_number axle r session c s out ≡ 0
  zero = number_zero axle b c s r out session x.accepts

  flag : server_flag c (asked r) ≡ true
  flag = flag_set c (asked r) _ (ap (λ (y : Reading). (asked y).ri) x.reads ∙ (offered c i x.asks x.ours).0)

  asks_ems : (asked r).ems ≡ true
  asks_ems = ap (λ (y : Reading). (asked y).ems) x.reads ∙ (offered c i x.asks x.ours).1

  -- the server's decision, where its outcome is o
  server_is : (o : Outcome) → server_outcome s session true ≡ some o
      → server_decision axle r session c s out ≡ decided o true (length (server_reply c s session (asked r)))
  unfolding server_decision
  server_is o e = decision_of _ _ _ o _ _ zero (ap (server_outcome s session) asks_ems ∙ e) flag

  server_resumes : (o : Outcome) → server_outcome s session true ≡ some o → yes (server_decision axle r session c s out).resumes ≡ o.resumes
  unfolding decided
  server_resumes o e = ap (λ (d : Decision). yes d.resumes) (server_is o e) ∙ yes_bit o.resumes

  -- the reply has RI and EMS, and the ServerHello has what the reply has
  uses : uses_ems (server_outcome s session (asked r).ems) ≡ true
  uses = ap (λ (e : Bool). uses_ems (server_outcome s session e)) asks_ems ∙ ⊎_elim (λ e. ap uses_ems e) (λ e. ap uses_ems e.3) (outcome_ems s session)

  carries : x.answer.extensions ≡ replied c
  unfolding server_reply
  carries = carried m x.answer (replied c) x.answered (x.carries ∙ ap₂ (reply_of c) flag uses ∙ reply_is c) (reply_shaped c)

  abbrev tells : Told
  tells = told (read_server m)

  tells_of : {A : Type 0} (f : Told → A) → f tells ≡ f (told (fields x.answer))
  tells_of f = ap (λ (y : Reading). f (told y)) x.answered

  tells_ri : tells.ri ≡ some (held c)
  tells_ri = tells_of (λ t. t.ri) ∙ ap indication_of carries ∙ (reply_says c).0

  tells_ems : tells.ems ≡ true
  tells_ems = tells_of (λ t. t.ems) ∙ ap ems_of carries ∙ (reply_says c).1

  tells_others : tells.others ≡ false
  tells_others = tells_of (λ t. t.others) ∙ ap others_of carries ∙ (reply_says c).2

  -- a good offer
  good_offer : bad_offer i l ≡ false
  unfolding bad_offer
  good_offer =
      by_test (eqb (length i) 0)
      (λ p. rw (le-ltb 32 (length i) x.short, p))
      (λ p. rw (le-ltb 32 (length i) x.short, p, x.shares.client (eqb-false _ _ p), same_refl i))

  -- both decisions, where both outcomes are o
  agree : (o : Outcome) → server_outcome s session true ≡ some o → suite_differs i (weighed_of l) tells ≡ false → client_outcome s' i (weighed_of l) tells ≡ some o
      → Agree (server_decision axle r session c s out) (client_decision (read_server m) i l c s')
  unfolding client_decision decided
  agree o e u f =
      let still = open_still axle b c s r out session x.asks x.reads zero in
      let n = client_zero c s' (read_server m) x.answer i l o x.answered good_offer tells_others still (right c s' tells tells_ri) u f in
      rw (server_is o e, decision_of _ _ _ o _ 0 n f (flagged c s' tells tells_ri))
      (record { accepted = refl; resumes = refl; ems = refl; flag = refl; bar = refl; bars_export = refl; bars_verify_data = refl })

  -- the server names what was offered exactly where it resumes
  names : (o : Outcome) → server_outcome s session true ≡ some o → (length i ≡ 0 → ⊥) → client_resumes i tells ≡ o.resumes
  unfolding client_resumes
  names o e h = rw (ne_eqb (length i) 0 h) (tells_of (λ t. same t.identifier i) ∙ x.repeats h ∙ server_resumes o e)

  -- a session that resumes was offered
  empty_none : length i ≡ 0 → session ≡ none
  unfolding session_in
  empty_none h =
      let z : length x.asks.identifier ≡ 0 = ap length x.ours.identifier ∙ h in
      rw (x.reads, eq-eqb (length x.asks.identifier) 0 z)

  found : (length i ≡ 0 → ⊥) → session ≡ on_offer x.asks.suites (original_of (sought axle i b))
  unfolding session_in
  found h =
      let z : length x.asks.identifier ≡ length i = ap length x.ours.identifier in
      rw (x.reads, ne_eqb (length x.asks.identifier) 0 (λ y. h (sym z ∙ y)), x.ours.identifier)

  unnamed : eqb (length i) 0 ≡ true → client_resumes i tells ≡ false
  unfolding client_resumes
  unnamed p = rw p

  -- the suite is asked only where it resumes, and then it is the session's
  unasked : client_resumes i tells ≡ false → suite_differs i (weighed_of l) tells ≡ false
  unfolding suite_differs
  unasked h = rw h

  named : tells.suite ≡ (weighed_of l).suite → suite_differs i (weighed_of l) tells ≡ false
  unfolding suite_differs
  named h = rw (eq-eqb tells.suite (weighed_of l).suite h) (neither (client_resumes i tells))
    where
      neither : (y : Bool) → (y && false) ≡ false
      neither true = refl
      neither false = refl

  full : server_outcome s session true ≡ some full_ems → Agree (server_decision axle r session c s out) (client_decision (read_server m) i l c s')
  full e =
      let n : client_resumes i tells ≡ false = by_test (eqb (length i) 0) unnamed (λ p. names full_ems e (eqb-false _ _ p)) in
      agree full_ems e (unasked n) (client_full s' i l tells tells_ems n)

  resumed : (o : Original) → session ≡ some o → o.ems ≡ true → server_outcome s session true ≡ some resumed_ems
      → Agree (server_decision axle r session c s out) (client_decision (read_server m) i l c s')
  unfolding on_offer
  resumed o k u e =
      let h : length i ≡ 0 → ⊥ = λ z. no_session o (sym (empty_none z) ∙ k) in
      let w : weighed_of l ≡ x.shares.original = ap weighed_of (x.shares.client h) in
      let v : x.shares.original ≡ o =
      ⊎_elim
      (λ q. absurd (no_session o (sym (found h ∙ ap (on_offer x.asks.suites) q) ∙ k)))
      (λ q. on_offer_lem x.asks.suites x.shares.original o (sym (found h ∙ ap (on_offer x.asks.suites) q) ∙ k))
      (x.shares.server h) in
      agree resumed_ems e
      (named (tells_of (λ t. t.suite) ∙ x.suite (server_resumes resumed_ems e) ∙ ap (λ (y : Original). y.suite) (sym w)))
      (client_resumed s' i l tells tells_ems (names resumed_ems e h) (ap (λ (y : Original). y.ems) (w ∙ v) ∙ u))

pub answers_agree : (axle : ℕ) (b : Book) (c : Connection) (s s' : Switches) (r : Reading) (out i : List ℕ) (l : Option Lent) (m : List ℕ)
    → Answers axle b c s r out i l m → Agree (server_decision axle r (session_in axle r b) c s out) (client_decision (read_server m) i l c s')
answers_agree axle b c s s' r out i l m x =
    ⊎_elim
    (λ e. full axle b c s s' r out i l m x e)
    (λ e. resumed axle b c s s' r out i l m x e.0 e.1 e.2 e.3)
    (outcome_ems s (session_in axle r b))
