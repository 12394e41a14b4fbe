-- What is asked of a log without altering it: the session hash, and what completion needs.
-- Assumes nothing.
use mathlib.Core.Path.{◌≡◌, refl, sym, ◌∙◌, ap}
use mathlib.Core.Bool.{Bool, true, false, not, ◌&&◌, ◌||◌}
use mathlib.Core.Logic.{◌⊎◌, inl, inr}
use mathlib.Core.List.{List, [], ◌∷◌, ◌++◌}
use Prim.Native.Nat.{ℕ, ◌≤◌, ◌<◌}
use native.Mathlib.Omega.{arith}
use lib.Dec.{eqb}
use lib.ListN.{length, replicate, length-replicate}
use borrow.Author.Tests.{eqb-true, ne_eqb, not-false}
use mir.Val.{bool_byte}
use Rattle.seqs.specs.Cases.{by_test, not_both}
use Rattle.refusal.specs.First.{first_of}
use Rattle.refusal.proofs.First.{first_zero}
use Rattle.refusal.specs.Table.{refusal_of}
use Rattle.refusal.specs.Listed.{listed, numbered}
use Rattle.refusal.specs.declared.Refusal.{Refusal}
use Rattle.message.specs.Frame.{kind_of}
use Rattle.transcript.specs.Choice.{Choice, algorithm_of}
use Rattle.transcript.specs.Carries.{Carries}
use Rattle.message_log.specs.Suite.{width_of}
use Rattle.message_log.specs.Order.{Place, turns, is_due, finished_due}
use Rattle.message_log.specs.Order.Place.{complete_full, complete_resumed}
use Rattle.message_log.specs.History.{History, place_of, hashed, choice_of, session_hash, exchanged, resumed, complete}
use Rattle.message_log.specs.Standing.{Standing, Part, history_of, between, left_of}
use Rattle.message_log.specs.Standing.Standing.{whole, parted}
use Rattle.message_log.specs.Calls.{session_number, session_hash_of, finished_of}
use Rattle.message_log.specs.Stands.{Stands, number}
use Rattle.message_log.specs.Promise.{Hashes}
use Rattle.message_log.specs.Finish.{expected_number, expected_of}
use Rattle.message_log.specs.Parts.{DoneIsWhole}
use Rattle.message_log.specs.Orders.{GivenChosen}
use Rattle.message_log.specs.declared.state.Log.{Log}
use Rattle.message_log.specs.declared.answers.SessionHash.{SessionHash}
use Rattle.message_log.specs.declared.answers.Expected.{Expected}
use Rattle.message_log.specs.declared.answers.Finished.{Finished}
use Rattle.message_log.proofs.Turns.{same_place, resumed_at}
use Rattle.message_log.proofs.Places.{placed_says, complete_by}
use Rattle.message_log.proofs.Held.{unexchanged_past}
use Rattle.message_log.proofs.Chosen.{choice_made, length-session}
use Rattle.message_log.proofs.Heads.{kind_front, accepted_due}

-- was a ClientKeyExchange accepted, as the log has it: between parts nothing is told
abbrev pub Exchanged : Log → Bool → Type 0
Exchanged log b = (s : Standing) → Stands log s → b ≡ (not (between s) && exchanged (history_of s))

pub unplaced_exchanged : (log : Log) → 16 < log.place → Exchanged log false
unplaced_exchanged log l s st = rw (unexchanged_past log.place l (history_of s) st.place) (never (not (between s)))
  where
    never : (b : Bool) → false ≡ (b && false)
    never true = refl
    never false = refl

module _ (log : Log) (r : Refusal) (b : Bool) (e : Exchanged log b) where
  pub session_given : (n : ℕ) → r ≡ refusal_of 0 → b ≡ true
      → (n ≤ 48) × ((c : Choice) (m : List ℕ) → Carries log.hash c m → n ≡ width_of (algorithm_of c))
      → Hashes log (record { refusal = r; length = n; hash = log.session })
  unfolding session_hash_of session_number first_of
  session_given n d f w =
      record { listed = listed 0 r d (omega arith); nothing = λ z. absurd (z (numbered 0 r d)); within = w.0; answer = go }
    where
      go : (s : Standing) → Stands log s → ◌≡◌ {A = SessionHash} (record { refusal = r; length = n; hash = log.session }) (session_hash_of s)
      go (whole h) st =
          let x : exchanged h ≡ true = sym (e (whole h) st) ∙ f in
          rw (x, d, st.session, w.1 (choice_of h) (hashed h) st.hash, length-session h st.place.order x)
      go (parted h p) st = not_both f (e (parted h p) st)

  pub session_refused : r ≡ refusal_of 7 → b ≡ false → Hashes log (record { refusal = r; length = 0; hash = replicate 48 0 })
  unfolding session_hash_of session_number first_of
  session_refused d f = record { listed = listed 7 r d (omega arith); nothing = λ n. (refl, refl); within = omega arith; answer = go }
    where
      go : (s : Standing) → Stands log s → ◌≡◌ {A = SessionHash} (record { refusal = r; length = 0; hash = replicate 48 0 }) (session_hash_of s)
      go (whole h) st = rw (sym (e (whole h) st) ∙ f, d)
      go (parted h p) st = rw d

-- nothing is in turn behind both Finished
done_due : (p : Place) → (number p ≡ 13) ⊎ (number p ≡ 16) → (resumes : Bool) (kind : ℕ) → is_due kind (turns resumes p) ≡ false
unfolding number turns is_due
done_due p (inl e) resumes kind = rw (same_place p complete_full e)
done_due p (inr e) resumes kind = rw (same_place p complete_resumed e)

module _ (log : Log) where
  -- so a log with both taken is whole
  done_whole : (log.place ≡ 13) ⊎ (log.place ≡ 16) → (h : History) (p : Part) → Stands log (parted h p) → ⊥
  done_whole e h p st =
      let rest : List ℕ = replicate (left_of p) 0 in
      let m : List ℕ = p.got ++ rest in
      let k : kind_of m ≡ kind_of p.got = kind_front p.got rest (omega (arith, st.part.header)) in
      let a = st.part.judged rest (length-replicate (left_of p) 0) in
      not_both (accepted_due h m p.tell a (λ z. st.part.hashed (sym k ∙ z))) (done_due (place_of h) (by_sum e) p.tell.resumes (kind_of m))
    where
      by_sum : (log.place ≡ 13) ⊎ (log.place ≡ 16) → (number (place_of h) ≡ 13) ⊎ (number (place_of h) ≡ 16)
      by_sum (inl x) = inl (sym st.place.number ∙ x)
      by_sum (inr x) = inr (sym st.place.number ∙ x)

  completes : (h : History) → Stands log (whole h) → (eqb log.place 13 || eqb log.place 16) ≡ complete h
  completes h s = complete_by log.place h s.place

  resumes : (h : History) → Stands log (whole h) → resumed h ≡ resumed_at log.place
  resumes h s = (placed_says log.place h s.place).resumed

  finished_full : log.place ≡ 13
      → (s : Standing) → Stands log s → ◌≡◌ {A = Finished} (record { complete = 1; resumed = 0; client = log.client; server = log.server }) (finished_of s)
  unfolding finished_of
  finished_full e (whole h) s = rw (← completes h s, resumes h s, e, s.client, s.server)
  finished_full e (parted h p) s = absurd (done_whole (inl e) h p s)

  finished_resumed : log.place ≡ 16
      → (s : Standing) → Stands log s → ◌≡◌ {A = Finished} (record { complete = 1; resumed = 1; client = log.client; server = log.server }) (finished_of s)
  unfolding finished_of
  finished_resumed e (whole h) s = rw (← completes h s, resumes h s, e, s.client, s.server)
  finished_resumed e (parted h p) s = absurd (done_whole (inr e) h p s)

  -- as the code has it
  pub finished_done : (r : ℕ) → r ≡ bool_byte (eqb log.place 16) → (log.place ≡ 13) ⊎ (log.place ≡ 16)
      → (s : Standing) → Stands log s → ◌≡◌ {A = Finished} (record { complete = 1; resumed = r; client = log.client; server = log.server }) (finished_of s)
  finished_done r f (inl e) s st = rw (f, e) (finished_full e s st)
  finished_done r f (inr e) s st = rw (f, e) (finished_resumed e s st)

  pub finished_not : (log.place ≡ 13 → ⊥) → (log.place ≡ 16 → ⊥)
      → (s : Standing) → Stands log s
      → ◌≡◌ {A = Finished} (record { complete = 0; resumed = 0; client = replicate 12 0; server = replicate 12 0 }) (finished_of s)
  unfolding finished_of
  finished_not e f (whole h) s = rw (← completes h s, ne_eqb log.place 13 e, ne_eqb log.place 16 f)
  finished_not e f (parted h p) s = refl

pub done_is_whole : DoneIsWhole
done_is_whole log (whole h) st e = refl
done_is_whole log (parted h p) st e = absurd (done_whole log (complete_place e) h p st)
  where
    complete_place : complete h ≡ true → (log.place ≡ 13) ⊎ (log.place ≡ 16)
    complete_place q =
        let c : (eqb log.place 13 || eqb log.place 16) ≡ true = complete_by log.place h st.place ∙ q in
        by_test (eqb log.place 13) (λ a. inl (eqb-true log.place 13 a)) (λ a. inr (eqb-true log.place 16 (rw a at c)))

-- where a session hash is given, and where a Finished is due
exchanged_at : (s : Standing) → session_number s ≡ 0 → exchanged (history_of s) ≡ true
unfolding session_number
exchanged_at s e =
    not-false _ (first_zero ((7, between s) ∷ (7, not (exchanged (history_of s))) ∷ []) refl e).1.0

due_at : (s : Standing) (secret : List ℕ) → expected_number s secret ≡ 0 → finished_due (place_of (history_of s)) ≡ true
unfolding expected_number
due_at s secret e =
    not-false _
    (first_zero ((10, not (eqb (length secret) 48)) ∷ (7, between s) ∷ (7, not (finished_due (place_of (history_of s)))) ∷ []) refl e).1.1.0

pub given_chosen : GivenChosen
unfolding session_hash_of expected_of
given_chosen log s st =
    record {
      session =
          λ r a z.
          let n : session_number s ≡ 0 = sym (numbered (session_number s) r.refusal (ap (λ (x : SessionHash). x.refusal) (a.answer s st))) ∙ z in
          let x : exchanged (history_of s) ≡ true = exchanged_at s n in
          let w : r.length ≡ length (session_hash (history_of s)) = ap (λ (y : SessionHash). y.length) (a.answer s st) ∙ (rw n) in
          (choice_made (history_of s) st.place.order (rw x), w ∙ length-session (history_of s) st.place.order x);
      expected =
          λ secret r a z.
          let n : expected_number s secret ≡ 0 = sym (numbered (expected_number s secret) r.refusal (ap (λ (x : Expected). x.refusal) (a.answer s st))) ∙ z in
          let d : finished_due (place_of (history_of s)) ≡ true = due_at s secret n in
          choice_made (history_of s) st.place.order (or_more (exchanged (history_of s)) _ d);
    }
  where
    or_more : (a b : Bool) → b ≡ true → (a || b) ≡ true
    or_more true b e = refl
    or_more false b e = e
