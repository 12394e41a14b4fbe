-- Order 2: what is not on offer counts as none, and whoever resumes, resumes with a suite that is on offer.
-- Assumes nothing.
use mathlib.Core.Path.{◌≡◌, refl, sym, ◌∙◌, ap}
use mathlib.Core.Bool.{Bool, true, false, false≢true, ◌||◌}
use mathlib.Core.List.{List, [], ◌∷◌}
use mathlib.Core.Option.{Option, none, some}
use Prim.Native.Nat.{ℕ}
use native.Mathlib.Omega.{arith}
use lib.Dec.{eqb, ltb}
use lib.ListN.{length, replicate}
use borrow.Author.Tests.{eqb-true}
use Rattle.seqs.specs.Flag.{yes}
use Rattle.seqs.specs.Pick.{pick}
use Rattle.seqs.specs.Cases.{by_test}
use Rattle.refusal.specs.First.{first_of, first_fault}
use Rattle.refusal.specs.Table.{refusal_of, refusal_at}
use Rattle.octets.specs.Same.{same}
use Rattle.message.specs.Numbers.{byte_at, pair_at, triple_at}
use Rattle.message.specs.Frame.{kind_of, body_of, overlong, cut_off, misstated, other_kind}
use Rattle.sessions.specs.Book as book
use Rattle.sessions.specs.Book.{Session, Book, empty, sought}
use Rattle.sessions.specs.Keeps.{table_of}
use Rattle.sessions.proofs.Sound.{sound_empty}
use Rattle.sessions.proofs.Alike.{keeps_table}
use Rattle.hello.specs.Layout.{big, field, counted, vector}
use Rattle.hello.specs.Extensions.{shaped, extension, list_of, extensions_of, has, twice, content_of, indication_of, others_of}
use Rattle.hello.specs.Fields.{Hello, fields, opening, closing, client_layout, server_layout, lists, hello_fault, read_client, read_server}
use Rattle.hello.specs.Written.{written_list, written_block}
use Rattle.decision.specs.Connection.{fresh_connection, closed, wrong_first, Outcome, legacy_full, full_legacy, refused_by, decided, decision}
use Rattle.decision.specs.Reply.{reply_list, reply_of, offer_of}
use Rattle.decision.specs.Server.{Original, original_of, on_offer, session_in, server_wrong, server_flag, resumable, server_outcome, server_reply, server_number, server_decision, server_output}
use Rattle.decision.specs.Client.{Told, told, Lent, weighed_of, bad_offer, client_wrong, client_flag, client_resumes, suite_differs, resumption, fullness, client_outcome, client_number, client_decision}
use Rattle.decision.specs.Exchanges.{suite_unlisted, session_lost, kept, strict}
use Rattle.decision.specs.Order2.{Unlisted, UnlistedIsNone, UnlistedMet, ServerResumesListed, ClientResumesNamed, ResumedMet, ServerCases, ClientCases}
use Rattle.decision.specs.declared.connection.Connection.{Connection}
use Rattle.decision.specs.declared.connection.Switches.{Switches}
use Rattle.decision.specs.declared.connection.Decision.{Decision}
use Rattle.decision.proofs.Outcomes.{row_none}
use Rattle.decision.proofs.Agreement.{no_session}
use Rattle.decision.proofs.Joined.{reply_rule}
use Rattle.decision.proofs.Witness.{answered, written, served, one, hello, witnesses}

-- ---- what counts as none

none_either : (x : Bool) → ◌≡◌ {A = Option Original} (pick x none none) none
none_either true = refl
none_either false = refl

-- such a session is none, and an empty book has none
unlisted_none : (axle : ℕ) (h : Hello) (b : Book) → Unlisted axle h b → session_in axle (fields h) b ≡ none
unfolding session_in on_offer
unlisted_none axle h b u = rw (u.known, u.unlisted) (none_either (eqb (length h.identifier) 0))

empty_none : (axle : ℕ) (h : Hello) → session_in axle (fields h) empty ≡ none
unfolding session_in on_offer book.oldest
empty_none axle h = none_either (eqb (length h.identifier) 0)

pub unlisted_is_none : UnlistedIsNone
unlisted_is_none t t₀ b axle m h c s out out' out₀' d d₀ k k₀ r u w w₀ =
    let q = w.answers b k in
    let q₀ = w₀.answers empty k₀ in
    let e : session_in axle (read_client m) b ≡ session_in axle (read_client m) empty = rw r (unlisted_none axle h b u ∙ sym (empty_none axle h)) in (
      q.answer ∙ ap (λ (x : Option Original). server_decision axle (read_client m) x c s out) e ∙ sym q₀.answer,
      q.output ∙ ap (λ (x : Option Original). server_output axle (read_client m) x c s out) e ∙ sym q₀.output,
    )

-- ---- what does not resume

-- a full handshake, and a refusal, resume nothing
full_resumes : (n p : ℕ) (o : Outcome) (flag : Bool) (size : ℕ) → o.resumes ≡ false → yes (decision n p (some o) flag size).resumes ≡ false
unfolding decision decided refused_by
full_resumes n p o flag size e = by_test (eqb n 0) (λ z. rw (z, e)) (λ z. rw z)

none_resumes : (n p : ℕ) (s : Switches) (e flag : Bool) (size : ℕ) → yes (decision n p (fullness s e) flag size).resumes ≡ false
unfolding decision fullness refused_by
none_resumes n p s true flag size = full_resumes n p _ flag size refl
none_resumes n p s false flag size = by_test (legacy_full s) (λ z. rw z (full_resumes n p full_legacy flag size refl)) (λ z. rw z)

-- ---- the server

module _ (axle : ℕ) (b : Book) (h : Hello) where
  abbrev Resumed : Type 0
  Resumed = (k : Session) × (sought axle h.identifier b ≡ some k) × (lists k.suite h.suites ≡ true)

  -- what is on offer is a session of the book whose suite is listed
  offered : (o : Original) → session_in axle (fields h) b ≡ some o → Resumed
  unfolding session_in on_offer
  offered o e =
      by_test (eqb (length h.identifier) 0)
      (λ z. absurd (no_session o (rw z at e)))
      (λ z. by_session (sought axle h.identifier b) refl (rw z at e))
    where
      by_session : (x : Option Session) → sought axle h.identifier b ≡ x → on_offer h.suites (original_of x) ≡ some o → Resumed
      by_session none f g = absurd (no_session o g)
      by_session (some k) f g = by_test (lists k.suite h.suites) (λ z. (k, f, z)) (λ z. absurd (no_session o (rw z at g)))

pub server_resumes_listed : ServerResumesListed
unfolding server_decision
server_resumes_listed t b axle m h c s out out' d k r w y =
    let q = w.answers b k in
    let e : yes (server_decision axle (fields h) (session_in axle (fields h) b) c s out).resumes ≡ true =
    rw r at (sym (ap (λ (x : Decision). yes x.resumes) q.answer) ∙ y) in
    go (session_in axle (fields h) b) refl e
  where
    go : (x : Option Original) → session_in axle (fields h) b ≡ x → yes (server_decision axle (fields h) x c s out).resumes ≡ true → Resumed axle b h
    go none f g = absurd (false≢true (sym (rw (row_none s _) (none_resumes _ _ s _ _ _)) ∙ g))
    go (some o) f g = offered axle b h o f

-- ---- the client

-- an offer that is good is that of a session
lent_offer : (i : List ℕ) (l : Option Lent) → eqb (length i) 0 ≡ false → bad_offer i l ≡ false → (k : Lent) × (l ≡ some k)
unfolding bad_offer
lent_offer i none n g = absurd (no_offer (ltb 32 (length i)) (rw n at g))
  where
    no_offer : (x : Bool) → (x || true) ≡ false → ⊥
    no_offer true e = false≢true (sym e)
    no_offer false e = false≢true (sym e)
lent_offer i (some k) n g = (k, refl)

-- the first test, and the one before the last, of a list whose number is 0
passed : (a f o k w u x : Bool) (n : ℕ) → f ≡ false → first_of ((11, a) ∷ (n, f) ∷ (4, o) ∷ (7, k) ∷ (5, w) ∷ (12, u) ∷ (6, x) ∷ []) ≡ 0 → (a ≡ false) × (u ≡ false)
unfolding first_of
passed true f o k w u x n e z = let y : ◌≡◌ {A = ℕ} 11 0 = z in absurd (omega arith)
passed false f true k w u x n e z = let y : ◌≡◌ {A = ℕ} 4 0 = rw e at z in absurd (omega arith)
passed false f false true w u x n e z = let y : ◌≡◌ {A = ℕ} 7 0 = rw e at z in absurd (omega arith)
passed false f false false true u x n e z = let y : ◌≡◌ {A = ℕ} 5 0 = rw e at z in absurd (omega arith)
passed false f false false false true x n e z = let y : ◌≡◌ {A = ℕ} 12 0 = rw e at z in absurd (omega arith)
passed false f false false false false x n e z = (refl, refl)

-- a decision that resumes is no refusal
resumes_zero : (n p : ℕ) (o : Option Outcome) (flag : Bool) (size : ℕ) → yes (decision n p o flag size).resumes ≡ true → n ≡ 0
unfolding decision refused_by
resumes_zero n p none flag size e = absurd (false≢true e)
resumes_zero n p (some o) flag size e = by_test (eqb n 0) (λ z. eqb-true n 0 z) (λ z. absurd (false≢true (rw z at e)))

module _ (i : List ℕ) (h : Hello) (l : Option Lent) (c : Connection) (s : Switches) where
  abbrev tells : Told
  tells = told (fields h)

  module _ (y : yes (client_decision (fields h) i l c s).resumes ≡ true) where
    zero : client_number (fields h) i l c s ≡ 0
    unfolding client_decision
    zero = resumes_zero _ _ _ _ _ y

    good : (bad_offer i l ≡ false) × (suite_differs i (weighed_of l) tells ≡ false)
    unfolding client_number
    good = passed _ _ _ _ _ _ _ _ refl zero

    resumes : client_resumes i tells ≡ true
    unfolding client_decision client_outcome
    resumes = by_test (client_resumes i tells) (λ z. z) (λ z. absurd (false≢true (sym (none_resumes _ _ s _ _ _) ∙ (rw z at y))))

    some_offer : eqb (length i) 0 ≡ false
    unfolding client_resumes
    some_offer = by_test (eqb (length i) 0) (λ z. absurd (false≢true (rw z at resumes))) (λ z. z)

    named : big h.suites ≡ (weighed_of l).suite
    unfolding suite_differs
    named =
        by_test (eqb (big h.suites) (weighed_of l).suite)
        (λ z. eqb-true _ _ z)
        (λ z. absurd (false≢true (sym (rw (resumes, z) at good.1))))

    client_named : (k : Lent) × (l ≡ some k) × (big h.suites ≡ k.original.suite)
    client_named = let k = lent_offer i l some_offer good.0 in (k.0, k.1, named ∙ ap (λ (x : Option Lent). (weighed_of x).suite) k.1)

pub client_resumes-named : ClientResumesNamed
client_resumes-named m i h l c s d r e y =
    client_named i h l c s (rw r at (sym (ap (λ (x : Decision). yes x.resumes) e) ∙ y))

-- ---- computed

pub unlisted_met : UnlistedMet
unfolding first_of first_fault refusal_of refusal_at byte_at pair_at triple_at kind_of body_of overlong cut_off misstated other_kind big field counted vector shaped extension list_of extensions_of has twice content_of indication_of opening closing client_layout lists hello_fault read_client written_list written_block closed wrong_first decided decision reply_list reply_of offer_of on_offer session_in server_wrong server_flag resumable server_outcome server_reply server_number server_decision server_output same book.oldest book.is_name book.is_named book.bad_axle
unlisted_met =
    record {
      table = table_of (kept true 53);
      fresh = table_of empty;
      book = kept true 53;
      message = suite_unlisted.hello;
      hello = hello (7 ∷ []) (offer_of fresh_connection);
      switches = strict;
      output = written suite_unlisted;
      decision = answered suite_unlisted;
      keeps = keeps_table (kept true 53) (one true 53);
      keeps_none = keeps_table empty sound_empty;
      reads = refl;
      unlisted = record { session = record { axle = 3; identifier = 7 ∷ []; ems = true; suite = 53; secret = replicate 48 0 }; known = refl; unlisted = refl };
      decides = served suite_unlisted (one true 53) refl;
      decides_none = served session_lost sound_empty refl;
      accepted = refl;
    }

pub server_cases : ServerCases
unfolding first_of first_fault refusal_of refusal_at byte_at pair_at triple_at kind_of body_of overlong cut_off misstated other_kind big field counted vector shaped extension list_of extensions_of has twice content_of indication_of opening closing client_layout lists hello_fault read_client written_list written_block closed wrong_first decided decision refused_by reply_list reply_of on_offer session_in server_wrong server_flag resumable server_outcome server_reply server_number server_decision same book.oldest book.is_name book.is_named book.bad_axle
server_cases =
    record {
      unlisted_full = refl;
      unlisted_six = refl;
      listed_six = refl;
      listed_last_six = refl;
      listed_resumed = refl;
      unlisted_legacy = refl;
      across = refl;
    }

pub client_cases : ClientCases
unfolding first_of first_fault refusal_of refusal_at byte_at pair_at triple_at kind_of body_of overlong cut_off misstated other_kind big field counted vector shaped extension list_of extensions_of has twice content_of indication_of others_of opening closing server_layout hello_fault read_server closed wrong_first decided decision refused_by bad_offer client_wrong client_flag client_resumes suite_differs resumption fullness client_outcome client_number client_decision same
client_cases =
    record {
      named = refl;
      other = refl;
      turned = refl;
      behind_five = refl;
      before_six = refl;
      named_six = refl;
      before_switch = refl;
      named_switch = refl;
      full = refl;
    }

pub resumed_met : ResumedMet
resumed_met =
    let x = witnesses.first_resumed_lem in
    let agree = reply_rule _ _ _ _ _ _ _ _ _ _ _ _ _ _ x.exchange in
    (x, x.outcome, ap yes agree.resumes ∙ x.outcome)
