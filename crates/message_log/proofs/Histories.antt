-- Histories against document 01's orders: a history is a walk along the table of turns, and what was told counts with type 2 alone.
-- Assumes nothing.
use mathlib.Core.Path.{◌≡◌, refl, sym, ◌∙◌, ap}
use mathlib.Core.Bool.{Bool, true, false, not, ◌&&◌, ◌||◌}
use mathlib.Core.List.{List, [], ◌∷◌, ◌++◌, Memᴰ}
use Prim.Native.Nat.{ℕ}
use native.Mathlib.Omega.{arith}
use lib.Dec.{eqb}
use borrow.Author.Tests.{eqb-true, eqb-false, ne_eqb, not-true, not-false}
use Rattle.seqs.specs.Pick.{pick}
use Rattle.seqs.specs.Cases.{by_test, not_both, and_left, and_right}
use Rattle.refusal.specs.First.{first_of}
use Rattle.message.specs.Frame.{kind_of}
use Rattle.message_log.specs.Order.{Place, turns, is_due, look}
use Rattle.message_log.specs.Order.Place.{beginning, client_hello, server_hello, server_certificate, server_key_exchange, certificate_request, hello_done, hello_done_requested, client_certificate, key_exchange, key_exchange_certified, certificate_verify, client_first, complete_full, resuming_hello, server_first, complete_resumed, nowhere}
use Rattle.message_log.specs.History.{History, tells, place_of, resumed, complete}
use Rattle.message_log.specs.History.History.{fresh, accepted}
use Rattle.message_log.specs.Standing.Standing.{whole}
use Rattle.message_log.specs.Calls.{out_of_turn, in_order, session_number}
use Rattle.message_log.specs.Orders.{orders, Begins, walk, walks, types_of, Ordered}
use Rattle.message_log.specs.Stands.{number, Placed}
use Rattle.message_log.proofs.Turns.{passes, each_place, same_place, exchanged_at, resumed_at}
use Rattle.message_log.proofs.Places.{placed_says, complete_by}
use Rattle.message_log.proofs.Orders.{ended, ended_true, ended_at, walk_append, walks_append, climbs, orderly}

-- ---- what was told

-- it counts after a ClientHello alone
untold : (resumes told : Bool) (p : Place) → (number p ≡ 1 → ⊥) → turns resumes p ≡ turns told p
unfolding turns number
untold resumes told beginning z = refl
untold resumes told client_hello z = absurd (z refl)
untold resumes told server_hello z = refl
untold resumes told server_certificate z = refl
untold resumes told server_key_exchange z = refl
untold resumes told certificate_request z = refl
untold resumes told hello_done z = refl
untold resumes told hello_done_requested z = refl
untold resumes told client_certificate z = refl
untold resumes told key_exchange z = refl
untold resumes told key_exchange_certified z = refl
untold resumes told certificate_verify z = refl
untold resumes told client_first z = refl
untold resumes told complete_full z = refl
untold resumes told resuming_hello z = refl
untold resumes told server_first z = refl
untold resumes told complete_resumed z = refl
untold resumes told nowhere z = refl

-- and there with type 2 alone
row_told : (resumes told : Bool) (kind : ℕ) → (kind ≡ 2 → ⊥)
    → (is_due kind (turns resumes client_hello) ≡ is_due kind (turns told client_hello)) × (look kind (turns resumes client_hello) ≡ look kind (turns told client_hello))
unfolding turns is_due look
row_told true true kind z = (refl, refl)
row_told true false kind z = rw (ne_eqb kind 2 z) (refl, refl)
row_told false true kind z = rw (ne_eqb kind 2 z) (refl, refl)
row_told false false kind z = (refl, refl)

pub told_by : (resumes told : Bool) (p : Place) (kind : ℕ) → (kind ≡ 2 → ⊥)
    → (is_due kind (turns resumes p) ≡ is_due kind (turns told p)) × (look kind (turns resumes p) ≡ look kind (turns told p))
unfolding number
told_by resumes told p kind z =
    by_test (eqb (number p) 1)
    (λ e. rw (same_place p client_hello (eqb-true (number p) 1 e)) (row_told resumes told kind z))
    (λ e. let f = untold resumes told p (eqb-false (number p) 1 e) in (ap (is_due kind) f, ap (look kind) f))

-- ---- a history as a walk

-- each type was in turn, and the walk leads to the history's place
record Walked (resumes : Bool) (l : List ℕ) (p : Place) : Type 0 where
  well : walks resumes beginning l ≡ true
  ends : walk resumes beginning l ≡ p

step : (resumes : Bool) (l : List ℕ) (p : Place) (kind : ℕ) → Walked resumes l p → is_due kind (turns resumes p) ≡ true
    → Walked resumes (l ++ (kind ∷ [])) (look kind (turns resumes p))
unfolding walk walks
step resumes l p kind w d =
    record {
      well = rw (walks_append resumes beginning l (kind ∷ []), w.well, w.ends, d);
      ends = rw (walk_append resumes beginning l (kind ∷ []), w.ends);
    }

elsewhere : (resumes : Bool) (p : Place) → (eqb (number p) 1 || not (is_due 2 (turns resumes p))) ≡ true
unfolding passes number turns is_due
elsewhere true = each_place (λ q. eqb (number q) 1 || not (is_due 2 (turns true q))) refl
elsewhere false = each_place (λ q. eqb (number q) 1 || not (is_due 2 (turns false q))) refl

-- type 2 is in turn after a ClientHello
two_after : (resumes : Bool) (p : Place) → is_due 2 (turns resumes p) ≡ true → p ≡ client_hello
unfolding number
two_after resumes p d =
    by_test (eqb (number p) 1) (λ e. same_place p client_hello (eqb-true (number p) 1 e))
    (λ e. not_both d (not-true (is_due 2 (turns resumes p)) (rw e at (elsewhere resumes p))))

-- before it nothing was told
untold_walk : (resumes told : Bool) (l : List ℕ) → Walked resumes l client_hello → Walked told l client_hello
unfolding walk walks turns is_due look number
untold_walk resumes told [] w = absurd (omega (arith, ap number w.ends))
untold_walk resumes told (kind ∷ []) w = record { well = w.well; ends = w.ends }
untold_walk resumes told (kind ∷ kind' ∷ l) w =
    absurd (omega (arith, climbs resumes beginning (kind ∷ kind' ∷ l) w.well, ap number w.ends))

walked : (h : History) → in_order h ≡ true → Walked (resumed h) (types_of h) (place_of h)
unfolding place_of in_order out_of_turn resumed types_of walk walks
walked fresh o = record { well = refl; ends = refl }
walked (accepted h m b) o =
    go (eqb (kind_of m) 0) refl (not-true _ (and_left (not (out_of_turn h m (tells b))) (in_order h) o)) (eqb (kind_of m) 2) refl
    (walked h (and_right (not (out_of_turn h m (tells b))) (in_order h) o))
  where
    go : (z : Bool) → eqb (kind_of m) 0 ≡ z → (not z && not (is_due (kind_of m) (turns (tells b).resumes (place_of h)))) ≡ false → (t : Bool) → eqb (kind_of m) 2 ≡ t
        → Walked (resumed h) (types_of h) (place_of h)
        → Walked (pick t (tells b).resumes (resumed h)) (pick z (types_of h) (types_of h ++ (kind_of m ∷ []))) (pick z (place_of h) (look (kind_of m) (turns (tells b).resumes (place_of h))))
    go true e f true g w = absurd (omega (arith, eqb-true (kind_of m) 0 e, eqb-true (kind_of m) 2 g))
    go true e f false g w = w
    go false e f false g w =
        let t = told_by (tells b).resumes (resumed h) (place_of h) (kind_of m) (eqb-false (kind_of m) 2 g) in
        rw t.1 (step (resumed h) (types_of h) (place_of h) (kind_of m) w (sym t.0 ∙ not-false _ f))
    go false e f true g w =
        let d : is_due (kind_of m) (turns (tells b).resumes (place_of h)) ≡ true = not-false _ f in
        let c : place_of h ≡ client_hello = two_after (tells b).resumes (place_of h) (rw (eqb-true (kind_of m) 2 g) at d) in
        step (tells b).resumes (types_of h) (place_of h) (kind_of m) (rw c (untold_walk (resumed h) (tells b).resumes (types_of h) (rw c at w))) d

-- the last step of a walk
last_step : (resumes : Bool) (l : List ℕ) (kind : ℕ) → walks resumes beginning (l ++ (kind ∷ [])) ≡ true
    → (walks resumes beginning l ≡ true) × (is_due kind (turns resumes (walk resumes beginning l)) ≡ true)
unfolding walks
last_step resumes l kind e =
    let due : Bool = is_due kind (turns resumes (walk resumes beginning l)) in
    let f = sym (walks_append resumes beginning l (kind ∷ [])) ∙ e in
    (and_left (walks resumes beginning l) (due && true) f, and_left due true (and_right (walks resumes beginning l) (due && true) f))

in_order_lem : (h : History) → walks (resumed h) beginning (types_of h) ≡ true → in_order h ≡ true
unfolding place_of in_order out_of_turn resumed types_of
in_order_lem fresh e = refl
in_order_lem (accepted h m b) e = go (eqb (kind_of m) 0) refl (eqb (kind_of m) 2) refl e (in_order_lem h)
  where
    go : (z : Bool) → eqb (kind_of m) 0 ≡ z → (t : Bool) → eqb (kind_of m) 2 ≡ t
        → walks (pick t (tells b).resumes (resumed h)) beginning (pick z (types_of h) (types_of h ++ (kind_of m ∷ []))) ≡ true
        → (walks (resumed h) beginning (types_of h) ≡ true → in_order h ≡ true)
        → (not (not z && not (is_due (kind_of m) (turns (tells b).resumes (place_of h)))) && in_order h) ≡ true
    go true y true g e f = absurd (omega (arith, eqb-true (kind_of m) 0 y, eqb-true (kind_of m) 2 g))
    go true y false g e f = f e
    go false y false g e f =
        let s = last_step (resumed h) (types_of h) (kind_of m) e in
        let o : in_order h ≡ true = f s.0 in
        let d : is_due (kind_of m) (turns (resumed h) (place_of h)) ≡ true = rw (walked h o).ends at s.1 in
        rw ((told_by (tells b).resumes (resumed h) (place_of h) (kind_of m) (eqb-false (kind_of m) 2 g)).0, d, o)
    go false y true g e f =
        let s = last_step (tells b).resumes (types_of h) (kind_of m) e in
        let c : walk (tells b).resumes beginning (types_of h) ≡ client_hello = two_after (tells b).resumes _ (rw (eqb-true (kind_of m) 2 g) at s.1) in
        let w = untold_walk (tells b).resumes (resumed h) (types_of h) (record { well = s.0; ends = c }) in
        let o : in_order h ≡ true = f w.well in
        let d : is_due (kind_of m) (turns (tells b).resumes (place_of h)) ≡ true = rw (c ∙ sym w.ends ∙ (walked h o).ends) at s.1 in
        rw (d, o)

-- ---- the statement

unexchanged : (p : Place) → resumed_at (number p) ≡ true → exchanged_at (number p) ≡ false
unfolding passes number
unexchanged p e = not-true _ (rw e at (each_place (λ q. not (resumed_at (number q)) || not (exchanged_at (number q))) refl p))

pub ordered : (h : History) → Ordered h
unfolding ended session_number first_of
ordered h = record { along = along; begins = begins; every = every; only = only; unhashed = unhashed }
  where
    along : Begins (resumed h) (types_of h) → in_order h ≡ true
    along b = in_order_lem h ((orderly (resumed h)).along (types_of h) b)

    begins : in_order h ≡ true → Begins (resumed h) (types_of h)
    begins o = (orderly (resumed h)).begins (types_of h) (walked h o).well

    placed : in_order h ≡ true → Placed (number (place_of h)) h
    placed o = record { number = refl; order = o }

    every : in_order h ≡ true → Memᴰ (types_of h) (orders (resumed h)) → complete h ≡ true
    every o m = sym (complete_by (number (place_of h)) h (placed o)) ∙ ended_true (place_of h) (rw (walked h o).ends at ((orderly (resumed h)).every (types_of h) m))

    only : in_order h ≡ true → complete h ≡ true → Memᴰ (types_of h) (orders (resumed h))
    only o c = (orderly (resumed h)).only (types_of h) (rw (walked h o).ends (ended_at (place_of h) (complete_by (number (place_of h)) h (placed o) ∙ c)))

    unhashed : in_order h ≡ true → resumed h ≡ true → session_number (whole h) ≡ 7
    unhashed o r =
        let s = placed_says (number (place_of h)) h (placed o) in
        rw (s.exchanged, unexchanged (place_of h) (sym s.resumed ∙ r))
