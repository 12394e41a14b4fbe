-- The places and the table of turns, by computation: a test that every place passes, and what each turn does. And the places' numbers, as
-- the code has them.
-- Assumes nothing.
use mathlib.Core.Path.{◌≡◌, refl, sym, ◌∙◌, ap, subst}
use mathlib.Core.Bool.{Bool, true, false, not, ◌&&◌, ◌||◌, false≢true}
use mathlib.Core.List.{List, [], ◌∷◌}
use Prim.Native.Nat.{ℕ, zero, suc, ◌≤◌, ◌<◌}
use native.Mathlib.Omega.{arith}
use lib.Dec.{eqb, leb, ltb}
use lib.ListN.{get_or}
use borrow.Author.Tests.{eqb-true, leb-true, ltb-true, ne_eqb, not-true}
use Rattle.seqs.specs.Pick.{pick}
use Rattle.seqs.specs.Cases.{by_test, and_left, and_right, or_left, or_right}
use Rattle.message_log.specs.Order.{Place, look, turns, is_due}
use Rattle.message_log.specs.Order.Place.{beginning, client_hello, server_hello, server_certificate, server_key_exchange, certificate_request, hello_done, hello_done_requested, client_certificate, key_exchange, key_exchange_certified, certificate_verify, client_first, complete_full, resuming_hello, server_first, complete_resumed, nowhere}
use Rattle.message_log.specs.Stands.{number}

-- ---- every place

-- the places, from number 0 on
abbrev pub places : List Place
places =
    beginning ∷ client_hello ∷ server_hello ∷ server_certificate ∷ server_key_exchange ∷ certificate_request ∷ hello_done ∷ hello_done_requested
    ∷ client_certificate ∷ key_exchange ∷ key_exchange_certified ∷ certificate_verify ∷ client_first ∷ complete_full ∷ resuming_hello ∷ server_first
    ∷ complete_resumed ∷ []

pub place_at : ℕ → Place
place_at n = get_or places n nowhere

place_at-number : (p : Place) → place_at (number p) ≡ p
unfolding place_at number
place_at-number beginning = refl
place_at-number client_hello = refl
place_at-number server_hello = refl
place_at-number server_certificate = refl
place_at-number server_key_exchange = refl
place_at-number certificate_request = refl
place_at-number hello_done = refl
place_at-number hello_done_requested = refl
place_at-number client_certificate = refl
place_at-number key_exchange = refl
place_at-number key_exchange_certified = refl
place_at-number certificate_verify = refl
place_at-number client_first = refl
place_at-number complete_full = refl
place_at-number resuming_hello = refl
place_at-number server_first = refl
place_at-number complete_resumed = refl
place_at-number nowhere = refl

-- no two places have one number
pub same_place : (p q : Place) → number p ≡ number q → p ≡ q
same_place p q e = sym (place_at-number p) ∙ ap place_at e ∙ place_at-number q

unfoldable pub passes : (Place → Bool) → List Place → Bool
passes t [] = t nowhere
passes t (p ∷ ps) = t p && passes t ps

passes_at : (t : Place → Bool) (ps : List Place) (n : ℕ) → passes t ps ≡ true → t (get_or ps n nowhere) ≡ true
unfolding passes
passes_at t [] n e = e
passes_at t (p ∷ ps) zero e = and_left (t p) (passes t ps) e
passes_at t (p ∷ ps) (suc n) e = passes_at t ps n (and_right (t p) (passes t ps) e)

-- what is computed of the listed places holds of every place
pub each_place : (t : Place → Bool) → passes t places ≡ true → (p : Place) → t p ≡ true
unfolding place_at
each_place t e p = subst (λ (q : Place). t q ≡ true) (place_at-number p) (passes_at t places (number p) e)

-- two tests that answer the same
unfoldable pub alike : Bool → Bool → Bool
alike true b = b
alike false b = not b

pub alike_same : (a b : Bool) → alike a b ≡ true → a ≡ b
unfolding alike
alike_same true true e = refl
alike_same true false e = sym e
alike_same false true e = e
alike_same false false e = refl

-- ---- every turn

each : (ℕ → Place → Bool) → List (ℕ × Place) → Bool
each t [] = true
each t ((due, place) ∷ rest) = t due place && each t rest

-- what is computed of the turns of a row holds of a type that is due
each_due : (t : ℕ → Place → Bool) (kind : ℕ) (row : List (ℕ × Place)) → each t row ≡ true → is_due kind row ≡ true → t kind (look kind row) ≡ true
unfolding each is_due look
each_due t kind [] e d = absurd (false≢true d)
each_due t kind ((due, place) ∷ rest) e d =
    go (eqb kind due) refl d (each_due t kind rest (and_right (t due place) (each t rest) e))
  where
    go : (b : Bool) → eqb kind due ≡ b → (b || is_due kind rest) ≡ true → (is_due kind rest ≡ true → t kind (look kind rest) ≡ true)
        → t kind (pick b place (look kind rest)) ≡ true
    go true f d g = rw (eqb-true kind due f) (and_left (t due place) (each t rest) e)
    go false f d g = g d

pub not_due : (kind : ℕ) (row : List (ℕ × Place)) → is_due kind row ≡ false → look kind row ≡ nowhere
unfolding is_due look
not_due kind [] d = refl
not_due kind ((due, place) ∷ rest) d =
    rw (or_left (eqb kind due) (is_due kind rest) d) (not_due kind rest (or_right (eqb kind due) (is_due kind rest) d))

-- what the numbers say of a history: a ServerHello was accepted, a ClientKeyExchange was, it was told to resume, how many Finished are taken,
-- whether the next one is the server's, and which side's are taken
abbrev pub chosen_at : ℕ → Bool
chosen_at n = leb 2 n

abbrev pub exchanged_at : ℕ → Bool
exchanged_at n = leb 9 n && leb n 13

abbrev pub resumed_at : ℕ → Bool
resumed_at n = leb 14 n && leb n 16

abbrev pub taken_at : ℕ → ℕ
taken_at n = pick (eqb n 12 || eqb n 15) 1 (pick (eqb n 13 || eqb n 16) 2 0)

abbrev pub server_due_at : ℕ → Bool
server_due_at n = eqb n 12 || eqb n 14

abbrev pub client_at : ℕ → Bool
client_at n = eqb n 12 || (eqb n 13 || eqb n 16)

abbrev pub server_at : ℕ → Bool
server_at n = eqb n 15 || (eqb n 13 || eqb n 16)

-- what a turn does: the number rises, though not to nowhere's, and says what the history says
pub record Turned (resumes : Bool) (n kind n' : ℕ) : Type 0 where
  pub rises : n < n'
  pub most : n' < 17
  pub chosen : chosen_at n' ≡ (eqb kind 2 || chosen_at n)
  -- there is one ServerHello
  pub once : (eqb kind 2 && chosen_at n) ≡ false
  pub exchanged : exchanged_at n' ≡ (eqb kind 16 || exchanged_at n)
  pub resumed : resumed_at n' ≡ pick (eqb kind 2) resumes (resumed_at n)
  pub taken : taken_at n' ≡ pick (eqb kind 20) (suc (taken_at n)) (taken_at n)
  pub client : client_at n' ≡ pick (eqb kind 20 && not (server_due_at n)) true (client_at n)
  pub server : server_at n' ≡ pick (eqb kind 20 && server_due_at n) true (server_at n)

turns_well : Bool → ℕ → ℕ → ℕ → Bool
turns_well resumes n kind n' =
    ltb n n'
    && (ltb n' 17
    && (alike (chosen_at n') (eqb kind 2 || chosen_at n)
    && (not (eqb kind 2 && chosen_at n)
    && (alike (exchanged_at n') (eqb kind 16 || exchanged_at n)
    && (alike (resumed_at n') (pick (eqb kind 2) resumes (resumed_at n))
    && (eqb (taken_at n') (pick (eqb kind 20) (suc (taken_at n)) (taken_at n))
    && (alike (client_at n') (pick (eqb kind 20 && not (server_due_at n)) true (client_at n))
    && alike (server_at n') (pick (eqb kind 20 && server_due_at n) true (server_at n)))))))))

turned_by : (resumes : Bool) (n kind n' : ℕ) → turns_well resumes n kind n' ≡ true → Turned resumes n kind n'
unfolding turns_well
turned_by resumes n kind n' e =
    let f = and_right (ltb n n') _ e in
    let c = and_right (ltb n' 17) _ f in
    let o = and_right (alike (chosen_at n') (eqb kind 2 || chosen_at n)) _ c in
    let g = and_right (not (eqb kind 2 && chosen_at n)) _ o in
    let h = and_right (alike (exchanged_at n') (eqb kind 16 || exchanged_at n)) _ g in
    let i = and_right (alike (resumed_at n') (pick (eqb kind 2) resumes (resumed_at n))) _ h in
    let j = and_right (eqb (taken_at n') (pick (eqb kind 20) (suc (taken_at n)) (taken_at n))) _ i in
    record {
      rises = ltb-true n n' (and_left _ _ e);
      most = ltb-true n' 17 (and_left _ _ f);
      chosen = alike_same _ _ (and_left _ _ c);
      once = not-true _ (and_left _ _ o);
      exchanged = alike_same _ _ (and_left _ _ g);
      resumed = alike_same _ _ (and_left _ _ h);
      taken = eqb-true _ _ (and_left _ _ i);
      client = alike_same _ _ (and_left _ _ j);
      server = alike_same _ _ (and_right (alike (client_at n') (pick (eqb kind 20 && not (server_due_at n)) true (client_at n))) _ j);
    }

all_turned : (resumes : Bool) (p : Place) → each (λ kind q. turns_well resumes (number p) kind (number q)) (turns resumes p) ≡ true
unfolding number passes each turns turns_well alike
all_turned true = each_place (λ p. each (λ kind q. turns_well true (number p) kind (number q)) (turns true p)) refl
all_turned false = each_place (λ p. each (λ kind q. turns_well false (number p) kind (number q)) (turns false p)) refl

pub turned : (resumes : Bool) (p : Place) (kind : ℕ) → is_due kind (turns resumes p) ≡ true → Turned resumes (number p) kind (number (look kind (turns resumes p)))
turned resumes p kind d =
    turned_by resumes (number p) kind (number (look kind (turns resumes p)))
    (each_due (λ kind q. turns_well resumes (number p) kind (number q)) kind (turns resumes p) (all_turned resumes p) d)

-- the highest number is nowhere's
pub number_most : (p : Place) → number p ≤ 17
unfolding number passes
number_most p = leb-true (number p) 17 (each_place (λ q. leb (number q) 17) refl p)

-- a number that is not nowhere's
pub due_number : (resumes : Bool) (p : Place) (kind r : ℕ) → r ≡ number (look kind (turns resumes p)) → not (eqb r 17) ≡ is_due kind (turns resumes p)
unfolding number
due_number resumes p kind r e =
    by_test (is_due kind (turns resumes p))
    (λ d. rw (d, ne_eqb r 17 (λ f. omega (arith, (turned resumes p kind d).most, e, f))))
    (λ d. rw (d, e, not_due kind (turns resumes p) d))
