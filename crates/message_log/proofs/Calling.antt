-- The orders over the calls that take a whole message: what each of them takes, and that every order is completed by them.
-- Assumes nothing.
use mathlib.Core.Path.{◌≡◌, refl, sym, ◌∙◌, ap}
use mathlib.Core.Bool.{Bool, true, false, not, ◌&&◌, ◌||◌}
use mathlib.Core.Logic.{◌⊎◌, inl, inr}
use mathlib.Core.List.{List, [], ◌∷◌, ◌++◌, append_assoc, append-nil, Memᴰ}
use Prim.Native.Nat.{ℕ}
use native.Mathlib.Omega.{arith}
use lib.Dec.{eqb}
use lib.ListN.{length}
use borrow.Author.Tests.{eqb-true, eqb-false, ne_eqb, not-true, not-false}
use Rattle.seqs.specs.Pick.{pick}
use Rattle.seqs.specs.Cases.{by_test, not_both, and_left, and_right}
use Rattle.refusal.specs.First.{first_of}
use Rattle.refusal.proofs.First.{first_zero}
use Rattle.octets.specs.Same.{same}
use Rattle.octets.specs.Equal.{same_true, same_refl}
use Rattle.message.specs.Numbers.{byte_at, pair_at, triple_at}
use Rattle.message.specs.Frame.{kind_of, body_of, overlong, cut_off, misstated}
use Rattle.transcript.specs.Choice.{Algorithm}
use Rattle.transcript.specs.Choice.Algorithm.{sha_256, sha_384}
use Rattle.transcript.specs.Choice.Choice.{unchosen, chosen}
use Rattle.prf.specs.Hash.{Lawful}
use Rattle.prf.specs.Lawful.{sha256_lawful, sha384_lawful}
use Rattle.message_log.specs.Suite.{function_of}
use Rattle.prf.proofs.Lengths.{length_verify}
use Rattle.message_log.specs.Told.{Told}
use Rattle.message_log.specs.Order.{Place, turns, is_due, look, finished_due}
use Rattle.message_log.specs.Order.Place.{beginning}
use Rattle.message_log.specs.History.{Beside, History, tells, place_of, choice_of, suite_of, resumed}
use Rattle.message_log.specs.History.History.{fresh, accepted}
use Rattle.message_log.specs.History.Beside.{told, under}
use Rattle.message_log.specs.Standing.Standing.{whole}
use Rattle.message_log.specs.Calls.{wrong_body, misshapen, shape_number, out_of_turn, in_order, is_finished, accept_number, after_accept}
use Rattle.message_log.specs.Finish.{expected_value, finish_number, after_finish, Checked}
use Rattle.message_log.specs.Stands.{number, Placed}
use Rattle.message_log.specs.Runs.{Call, number_of, after, standing_from}
use Rattle.message_log.specs.Runs.Call.{accept, finish, feed}
use Rattle.message_log.specs.Orders.{orders, Begins, walk, walks, types_of, BothCalls, AllTaken, Under, EveryOrder}
use Rattle.message_log.proofs.Turns.{passes, each_place, chosen_at, resumed_at}
use Rattle.message_log.proofs.Places.{placed_says, complete_by}
use Rattle.message_log.proofs.Messages.{fine}
use Rattle.message_log.proofs.Heads.{accepted_is}
use Rattle.message_log.proofs.Accepting.{accept_turn, accept_by}
use Rattle.message_log.proofs.Finishing.{finish_due}
use Rattle.message_log.proofs.Chosen.{unchosen_not}
use Rattle.message_log.proofs.Orders.{orderly}
use Rattle.message_log.proofs.Histories.{told_by, ordered}

-- ---- what each call takes

module _ (h : History) (o : in_order h ≡ true) where
  accepts : (m : List ℕ) (tell : Told) → shape_number m ≡ 0 → (kind_of m ≡ 20 → ⊥)
      → Begins (resumed (accepted h m (told tell))) (types_of (accepted h m (told tell))) → accept_number (whole h) m tell ≡ 0
  unfolding in_order tells is_finished
  accepts m tell f k b =
      let i : in_order (accepted h m (told tell)) ≡ true = (ordered (accepted h m (told tell))).along b in
      accept_turn m tell (fine m f) h false false (ne_eqb (kind_of m) 20 k) (not-true _ (and_left (not (out_of_turn h m tell)) (in_order h) i))

  accepts_only : (m : List ℕ) (tell : Told) → accept_number (whole h) m tell ≡ 0
      → (kind_of m ≡ 20 → ⊥) × Begins (resumed (accepted h m (told tell))) (types_of (accepted h m (told tell)))
  unfolding in_order tells
  accepts_only m tell e =
      let a = accepted_is h m tell e in
      (a.other, (ordered (accepted h m (told tell))).begins (rw (a.turn, o)))

  -- type 20 leads on along an order exactly where a Finished is due
  due_along : (secret m : List ℕ) → kind_of m ≡ 20 → Begins (resumed h) (types_of h ++ (20 ∷ [])) → finished_due (place_of h) ≡ true
  unfolding in_order out_of_turn tells resumed types_of finished_due
  due_along secret m k b =
      let i : in_order (accepted h m (under secret)) ≡ true = (ordered (accepted h m (under secret))).along (rw k b) in
      let t = tells (under secret) in
      let d : not (out_of_turn h m t) ≡ true = and_left (not (out_of_turn h m t)) (in_order h) i in
      let e : not (is_due 20 (turns false (place_of h))) ≡ false = rw k at (not-true (out_of_turn h m t) d) in
      not-false _ e

  along_due : (secret m : List ℕ) → kind_of m ≡ 20 → finished_due (place_of h) ≡ true → Begins (resumed h) (types_of h ++ (20 ∷ []))
  unfolding in_order out_of_turn tells resumed types_of finished_due
  along_due secret m k d =
      let i : in_order (accepted h m (under secret)) ≡ true = rw (k, d, o) in
      rw k at ((ordered (accepted h m (under secret))).begins i)

  finishes : (secret m : List ℕ) → length secret ≡ 48 → shape_number m ≡ 0 → kind_of m ≡ 20 → body_of m ≡ expected_value h secret
      → Begins (resumed h) (types_of h ++ (20 ∷ [])) → finish_number (whole h) secret m ≡ 0
  unfolding is_finished
  finishes secret m n f k v b =
      finish_due secret m n (fine m f) h true true (rw (k, due_along secret m k b)) (rw v (same_refl (expected_value h secret)))

  finishes_only : (secret m : List ℕ) → finish_number (whole h) secret m ≡ 0
      → Checked h m secret × Begins (resumed h) (types_of h ++ (20 ∷ []))
  unfolding finish_number is_finished
  finishes_only secret m e =
      let none =
      first_zero
      ((10, not (eqb (length secret) 48))
      ∷ (10, overlong m)
      ∷ (1, misstated m)
      ∷ (1, misshapen m)
      ∷ (7, false)
      ∷ (7, not (is_finished m && finished_due (place_of h)))
      ∷ (8, not (same (body_of m) (expected_value h secret)))
      ∷ [])
      refl e in
      let t = not-false _ none.1.1.1.1.1.0 in
      let k : kind_of m ≡ 20 = eqb-true (kind_of m) 20 (and_left (is_finished m) (finished_due (place_of h)) t) in (
        record {
          kind = k;
          sized = eqb-true (length secret) 48 (not-false _ none.0);
          value = same_true (body_of m) (expected_value h secret) (not-false _ none.1.1.1.1.1.1.0);
        },
        along_due secret m k (and_right (is_finished m) (finished_due (place_of h)) t),
      )

pub both_calls : (h : History) → in_order h ≡ true → BothCalls h
both_calls h o =
    record { accepts = accepts h o; accepts_only = accepts_only h o; finishes = finishes h o; finishes_only = finishes_only h o }

-- ---- every order is completed

-- no place has type 0 in turn
none_hashed : (resumes : Bool) (p : Place) → is_due 0 (turns resumes p) ≡ false
unfolding passes turns is_due
none_hashed true p = not-true _ (each_place (λ q. not (is_due 0 (turns true q))) refl p)
none_hashed false p = not-true _ (each_place (λ q. not (is_due 0 (turns false q))) refl p)

length-expected : (h : History) (secret : List ℕ) → length (expected_value h secret) ≡ 12
unfolding expected_value
length-expected h secret = length_verify (lawful (suite_of h)) secret _ _
  where
    lawful : (a : Algorithm) → Lawful (function_of a)
    lawful sha_256 = sha256_lawful
    lawful sha_384 = sha384_lawful

-- no other hash was chosen than the one that is told
abbrev Open : Told → History → Type 0
Open tell h = (choice_of h ≡ unchosen) ⊎ (choice_of h ≡ chosen tell.hash)

-- one call that is answered 0 and leads on by a type
record Goes (tell : Told) (secret : List ℕ) (h : History) (kind : ℕ) : Type 0 where
  call : Call
  next : History
  taken : number_of (whole h) call ≡ 0
  leads : after (whole h) call ≡ whole next
  under : Under secret (call ∷ [])
  order : in_order next ≡ true
  types : types_of next ≡ types_of h ++ (kind ∷ [])
  place : place_of next ≡ look kind (turns tell.resumes (place_of h))
  choice : Open tell h → Open tell next

-- and several, by several types
record Gone (tell : Told) (secret : List ℕ) (h : History) (rest : List ℕ) : Type 0 where
  calls : List Call
  next : History
  taken : AllTaken (whole h) calls
  leads : standing_from (whole h) calls ≡ whole next
  under : Under secret calls
  order : in_order next ≡ true
  types : types_of next ≡ types_of h ++ rest
  place : place_of next ≡ walk tell.resumes (place_of h) rest
  choice : Open tell h → Open tell next

module _ (tell : Told) (secret : List ℕ) (n : length secret ≡ 48) where
  abbrev resumes : Bool
  resumes = tell.resumes

  module _ (h : History) (o : in_order h ≡ true) (kind : ℕ) (d : is_due kind (turns resumes (place_of h)) ≡ true) where
    hashed_type : kind ≡ 0 → ⊥
    hashed_type e = not_both (rw e at d) (none_hashed resumes (place_of h))

    goes_by : (c : Call) (m : List ℕ) (b : Beside) → number_of (whole h) c ≡ 0 → after (whole h) c ≡ whole (accepted h m b) → Under secret (c ∷ []) → kind_of m ≡ kind
        → is_due kind (turns (tells b).resumes (place_of h)) ≡ true → look kind (turns (tells b).resumes (place_of h)) ≡ look kind (turns resumes (place_of h))
        → (kind ≡ 2 → (tells b).hash ≡ tell.hash)
        → Goes tell secret h kind
    unfolding in_order out_of_turn types_of place_of choice_of
    goes_by c m b z e u k t x y =
        let f : eqb kind 0 ≡ false = ne_eqb kind 0 hashed_type in
        record {
          call = c;
          next = accepted h m b;
          taken = z;
          leads = e;
          under = u;
          order = rw (k, f, t) o;
          types = rw (k, f);
          place = rw (k, f) x;
          choice = chooses;
        }
      where
        chooses : Open tell h → (pick (eqb (kind_of m) 2) (chosen (tells b).hash) (choice_of h) ≡ unchosen) ⊎ (pick (eqb (kind_of m) 2) (chosen (tells b).hash) (choice_of h) ≡ chosen tell.hash)
        chooses w =
            by_test (eqb kind 2) (λ q. inr (rw (k, q) (ap chosen (y (eqb-true kind 2 q))))) (λ q. rw (k, q) w)

    -- a type that is in turn, but 20: a message without a body will do
    other : (kind ≡ 20 → ⊥) → Goes tell secret h kind
    unfolding number_of after after_accept tells Under first_of shape_number overlong misstated cut_off misshapen wrong_body kind_of body_of byte_at pair_at triple_at
    other k =
        let m : List ℕ = kind ∷ 0 ∷ 0 ∷ 0 ∷ [] in
        let f : shape_number m ≡ 0 = rw (ne_eqb kind 0 hashed_type, ne_eqb kind 20 k) in
        let z : accept_number (whole h) m tell ≡ 0 = accept_by m tell (fine m f) h hashed_type k true d in
        goes_by (accept m tell) m (told tell) z (rw z) tt refl d refl (λ _. refl)

    -- a Finished with what is expected of it
    finished : kind ≡ 20 → Goes tell secret h kind
    unfolding number_of after after_finish tells Under first_of shape_number overlong misstated cut_off misshapen wrong_body is_finished finished_due kind_of body_of byte_at pair_at triple_at
    finished k =
        let m : List ℕ = 20 ∷ 0 ∷ 0 ∷ 12 ∷ expected_value h secret in
        let t = told_by resumes false (place_of h) kind (λ x. omega (arith, k, x)) in
        let e : is_due kind (turns false (place_of h)) ≡ true = sym t.0 ∙ d in
        let f : shape_number m ≡ 0 = rw (length-expected h secret) in
        let z : finish_number (whole h) secret m ≡ 0 = finish_due secret m n (fine m f) h true true (rw k at e) (same_refl (expected_value h secret)) in
        goes_by (finish secret m) m (under secret) z (rw z) (refl, tt) (sym k) e (sym t.1) (λ q. absurd (omega (arith, k, q)))

    one : Goes tell secret h kind
    one = by_test (eqb kind 20) (λ e. finished (eqb-true kind 20 e)) (λ e. other (eqb-false kind 20 e))

  before : (c : Call) (cs : List Call) → Under secret (c ∷ []) → Under secret cs → Under secret (c ∷ cs)
  unfolding Under
  before (accept m x) cs u v = v
  before (finish x m) cs u v = (u.0, v)
  before (feed rest k x) cs u v = v

  all : (rest : List ℕ) (h : History) → in_order h ≡ true → walks resumes (place_of h) rest ≡ true → Gone tell secret h rest
  unfolding walks walk AllTaken Under standing_from
  all [] h o w =
      record { calls = []; next = h; taken = tt; leads = refl; under = tt; order = o; types = sym (append-nil (types_of h)); place = refl; choice = λ w. w }
  all (kind ∷ rest) h o w =
      let g = one h o kind (and_left (is_due kind (turns resumes (place_of h))) _ w) in
      let r = all rest g.next g.order (rw g.place (and_right (is_due kind (turns resumes (place_of h))) _ w)) in
      record {
        calls = g.call ∷ r.calls;
        next = r.next;
        taken = (g.taken, rw g.leads r.taken);
        leads = rw g.leads r.leads;
        under = before g.call r.calls g.under r.under;
        order = r.order;
        types = r.types ∙ (rw g.types (append_assoc (types_of h) (kind ∷ []) rest));
        place = r.place ∙ ap (λ (p : Place). walk resumes p rest) g.place;
        choice = λ w. r.choice (g.choice w);
      }

each : (List ℕ → Bool) → List (List ℕ) → Bool
each t [] = true
each t (l ∷ ls) = t l && each t ls

each_member : (t : List ℕ → Bool) (l : List ℕ) (ls : List (List ℕ)) → each t ls ≡ true → Memᴰ l ls → t l ≡ true
unfolding each
each_member t l [] e m = elim m [ ]
each_member t l (x ∷ ls) e (Memᴰ.head f) = rw f (and_left (t x) (each t ls) e)
each_member t l (x ∷ ls) e (Memᴰ.tail m) = each_member t l ls (and_right (t x) (each t ls) e) m

-- where an order ends
ends : (resumes : Bool) (l : List ℕ) → Memᴰ l (orders resumes) → number (walk resumes beginning l) ≡ pick resumes 16 13
unfolding each walk turns look number
ends true l m = eqb-true _ 16 (each_member (λ x. eqb (number (walk true beginning x)) 16) l (orders true) refl m)
ends false l m = eqb-true _ 13 (each_member (λ x. eqb (number (walk false beginning x)) 13) l (orders false) refl m)

pub every_order : EveryOrder
unfolding in_order types_of place_of choice_of
every_order tell l secret n m =
    let resumes : Bool = tell.resumes in
    let g = all tell secret n l fresh refl ((orderly resumes).along l ([], rw append-nil m)) in
    let h = g.next in
    let e : number (place_of h) ≡ pick resumes 16 13 = rw g.place (ends resumes l m) in
    let p : Placed (pick resumes 16 13) h = record { number = sym e; order = g.order } in
    record {
      calls = g.calls;
      taken = g.taken;
      under = g.under;
      types = rw g.leads g.types;
      told = rw g.leads ((placed_says (pick resumes 16 13) h p).resumed ∙ told_at resumes);
      hash = rw g.leads (chosen_at_lem h (g.choice (inl refl)) g.order (late resumes (number (place_of h)) e));
      complete = rw g.leads (sym (complete_by (pick resumes 16 13) h p) ∙ complete_at resumes);
    }
  where
    told_at : (b : Bool) → resumed_at (pick b 16 13) ≡ b
    told_at true = refl
    told_at false = refl

    complete_at : (b : Bool) → (eqb (pick b 16 13) 13 || eqb (pick b 16 13) 16) ≡ true
    complete_at true = refl
    complete_at false = refl

    late : (b : Bool) (i : ℕ) → i ≡ pick b 16 13 → chosen_at i ≡ true
    late true i e = rw e
    late false i e = rw e

    chosen_at_lem : (h : History) → Open tell h → in_order h ≡ true → chosen_at (number (place_of h)) ≡ true → choice_of h ≡ chosen tell.hash
    chosen_at_lem h (inl u) o e = absurd (unchosen_not h o e u)
    chosen_at_lem h (inr c) o e = c
