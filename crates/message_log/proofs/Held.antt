-- The code's places: no two of them have one number, and what the number says of the history.
-- Assumes nothing.
use mathlib.Core.Path.{◌≡◌, refl, sym, ◌∙◌, ap}
use mathlib.Core.Bool.{Bool, true, false, ◌&&◌, ◌||◌}
use mathlib.Core.Logic.{◌⊎◌, inl, inr}
use mathlib.Core.List.{List, [], ◌∷◌}
use Rattle.std.proofs.Common.{Some, None, Result, Ok, Err}
use Rattle.std.specs.Result.{result_ok}
use Prim.Native.Nat.{ℕ, ◌<◌}
use native.Mathlib.Omega.{arith}
use lib.Dec.{eqb, leb}
use lib.ListN.{get_or}
use borrow.Author.Tests.{eqb-true, ne_eqb}
use Rattle.std.proofs.lemmas.Bool.Decides.{nat_tests}
use Rattle.refusal.specs.declared.reason.Reason.{Reason}
use Rattle.message_log.specs.Order.{Place, turns, look, is_due, finished_due}
use Rattle.message_log.specs.Order.Place.{nowhere}
use Rattle.message_log.specs.History.{History, place_of, exchanged, from_server}
use Rattle.message_log.specs.Stands.{number, Placed}
use Rattle.message_log.specs.Places.{read, Numbered, DueTo}
use Rattle.message_log.specs.declared.order.Place.{Place as Held}
use Rattle.message_log.specs.declared.order.Place.TheVariants.{Beginning, ClientHello, ServerHello, ServerCertificate, ServerKeyExchange, CertificateRequest, HelloDone, HelloDoneRequested, ClientCertificate, KeyExchange, KeyExchangeCertified, CertificateVerify, ClientFirst, CompleteFull, ResumingHello, ServerFirst, CompleteResumed}
use Rattle.message_log.proofs.Turns.{passes, each_place, same_place, number_most, due_number}
use Rattle.message_log.proofs.Places.{placed_says, from_server_by}

held : List Held
held =
    Beginning ∷ ClientHello ∷ ServerHello ∷ ServerCertificate ∷ ServerKeyExchange ∷ CertificateRequest ∷ HelloDone ∷ HelloDoneRequested
    ∷ ClientCertificate ∷ KeyExchange ∷ KeyExchangeCertified ∷ CertificateVerify ∷ ClientFirst ∷ CompleteFull ∷ ResumingHello ∷ ServerFirst
    ∷ CompleteResumed ∷ []

pub held_at : ℕ → Held
held_at n = get_or held n Beginning

held_at-number : (p : Held) → held_at (number (read p)) ≡ p
unfolding held held_at number read
held_at-number Beginning = refl
held_at-number ClientHello = refl
held_at-number ServerHello = refl
held_at-number ServerCertificate = refl
held_at-number ServerKeyExchange = refl
held_at-number CertificateRequest = refl
held_at-number HelloDone = refl
held_at-number HelloDoneRequested = refl
held_at-number ClientCertificate = refl
held_at-number KeyExchange = refl
held_at-number KeyExchangeCertified = refl
held_at-number CertificateVerify = refl
held_at-number ClientFirst = refl
held_at-number CompleteFull = refl
held_at-number ResumingHello = refl
held_at-number ServerFirst = refl
held_at-number CompleteResumed = refl

-- no two have one number
same_held : (p q : Held) → number (read p) ≡ number (read q) → p ≡ q
same_held p q e = sym (held_at-number p) ∙ ap held_at e ∙ held_at-number q

-- and none has nowhere's
pub somewhere : (p : Held) → number (read p) ≡ 17 → ⊥
unfolding held held_at number read
somewhere p e =
    let b : p ≡ Beginning = sym (held_at-number p) ∙ ap held_at e in
    let z : 0 ≡ number (read p) = sym (ap (λ (q : Held). number (read q)) b) in
    omega (arith, e, z)

-- every place but nowhere is read of one
pub held_at_read : (p : Place) → number p < 17 → read (held_at (number p)) ≡ p
unfolding held held_at number read passes
held_at_read p l =
    same_place (read (held_at (number p))) p
    (eqb-true (number (read (held_at (number p)))) (number p)
    (rw (ne_eqb (number p) 17 (λ e. omega (arith, e, l))) at (each_place (λ q. eqb (number q) 17 || eqb (number (read (held_at (number q)))) (number q)) refl p)))

-- ---- where a message leads

-- from a place that a log has
pub led_from : (n kind : ℕ) (resumes : Bool) (place : Held) (q : Place) → n ≡ number (read place) → q ≡ look kind (turns resumes (read place))
    → (p : Place) → n ≡ number p → number q ≡ number (look kind (turns resumes p))
led_from n kind resumes place q e f p g = rw (same_place p (read place) (sym g ∙ e)) (ap number f)

-- a number past those of the places is nowhere's
past : (n : ℕ) → 16 < n → (p : Place) → n ≡ number p → p ≡ nowhere
unfolding number
past n l p e = same_place p nowhere (omega (arith, e, number_most p))

pub led_past : (n kind : ℕ) (resumes : Bool) → 16 < n → (p : Place) → n ≡ number p → 17 ≡ number (look kind (turns resumes p))
unfolding number turns look
led_past n kind resumes l p e = rw (past n l p e)

-- ---- a byte as a place

pub numbered : (n : ℕ) (place : Held) (r : Result Held Reason) → Some place ≡ result_ok r → Numbered n r → n ≡ number (read place)
numbered n place (Ok q) e f = let g : q ≡ place = cc in f ∙ ap (λ (p : Held). number (read p)) g
numbered n place (Err reason) e f = absurd cc

pub unnumbered : (n : ℕ) (r : Result Held Reason) → None ≡ result_ok r → Numbered n r → 16 < n
unnumbered n (Ok q) e f = absurd cc
unnumbered n (Err reason) e f = f.1

-- ---- a Finished

module _ (place : Held) (h : History) (s : Placed (number (read place)) h) where
  here : place_of h ≡ read place
  here = same_place (place_of h) (read place) (sym s.number)

  pub due_by : (next : Held) (server : Bool) → read next ≡ look 20 (turns false (read place)) → server ≡ from_server h
      → DueTo h (record { server = server; next = next })
  unfolding finished_due
  due_by next server e f =
      let n : read next ≡ look 20 (turns false (place_of h)) = e ∙ (rw here) in
      record {
        in_turn = sym (due_number false (place_of h) 20 (number (read next)) (ap number n)) ∙ (rw (ne_eqb (number (read next)) 17 (somewhere next)));
        server = f;
        next = n;
      }

  pub undue_by : nowhere ≡ look 20 (turns false (read place)) → finished_due (place_of h) ≡ false
  unfolding finished_due number
  undue_by e = sym (due_number false (place_of h) 20 17 (ap number (e ∙ (rw here))))

  -- whose it is
  pub server_by : (place ≡ ClientFirst) ⊎ (place ≡ ResumingHello) → true ≡ from_server h
  unfolding number read
  server_by (inl e) = (rw e) ∙ from_server_by (number (read place)) h s
  server_by (inr e) = (rw e) ∙ from_server_by (number (read place)) h s

  pub client_by : (place ≡ ClientFirst → ⊥) → (place ≡ ResumingHello → ⊥) → false ≡ from_server h
  unfolding number read
  client_by a b =
      sym (rw (ne_eqb (number (read place)) 12 (λ e. a (same_held place ClientFirst e)), ne_eqb (number (read place)) 14 (λ e. b (same_held place ResumingHello e))))
      ∙ from_server_by (number (read place)) h s

  -- was a ClientKeyExchange accepted
  pub exchanged_by : (place ≡ KeyExchange) ⊎ (place ≡ KeyExchangeCertified) ⊎ (place ≡ CertificateVerify) ⊎ (place ≡ ClientFirst) ⊎ (place ≡ CompleteFull)
      → true ≡ exchanged h
  unfolding number read
  exchanged_by x = sym ((placed_says (number (read place)) h s).exchanged ∙ by_sum x)
    where
      by_sum : (place ≡ KeyExchange) ⊎ (place ≡ KeyExchangeCertified) ⊎ (place ≡ CertificateVerify) ⊎ (place ≡ ClientFirst) ⊎ (place ≡ CompleteFull)
          → (leb 9 (number (read place)) && leb (number (read place)) 13) ≡ true
      by_sum (inl e) = rw e
      by_sum (inr (inl e)) = rw e
      by_sum (inr (inr (inl e))) = rw e
      by_sum (inr (inr (inr (inl e)))) = rw e
      by_sum (inr (inr (inr (inr e)))) = rw e

  pub unexchanged_by : (place ≡ KeyExchange → ⊥) → (place ≡ KeyExchangeCertified → ⊥) → (place ≡ CertificateVerify → ⊥) → (place ≡ ClientFirst → ⊥)
      → (place ≡ CompleteFull → ⊥) → false ≡ exchanged h
  unfolding number read
  unexchanged_by a b c d e =
      let n9 : number (read place) ≡ 9 → ⊥ = λ x. a (same_held place KeyExchange x) in
      let n10 : number (read place) ≡ 10 → ⊥ = λ x. b (same_held place KeyExchangeCertified x) in
      let n11 : number (read place) ≡ 11 → ⊥ = λ x. c (same_held place CertificateVerify x) in
      let n12 : number (read place) ≡ 12 → ⊥ = λ x. d (same_held place ClientFirst x) in
      let n13 : number (read place) ≡ 13 → ⊥ = λ x. e (same_held place CompleteFull x) in
      sym ((placed_says (number (read place)) h s).exchanged ∙ apart (number (read place)) n9 n10 n11 n12 n13)
    where
      apart : (n : ℕ) → (n ≡ 9 → ⊥) → (n ≡ 10 → ⊥) → (n ≡ 11 → ⊥) → (n ≡ 12 → ⊥) → (n ≡ 13 → ⊥) → (leb 9 n && leb n 13) ≡ false
      apart n a b c d e = grind (arith, nat_tests)

pub undue_past : (n : ℕ) → 16 < n → (p : Place) → n ≡ number p → finished_due p ≡ false
unfolding finished_due turns is_due
undue_past n l p e = rw (past n l p e)

pub unexchanged_past : (n : ℕ) → 16 < n → (h : History) → Placed n h → exchanged h ≡ false
unexchanged_past n l h s = (placed_says n h s).exchanged ∙ beyond
  where
    beyond : (leb 9 n && leb n 13) ≡ false
    beyond = grind (arith, nat_tests)
