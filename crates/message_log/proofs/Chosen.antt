-- The hash is chosen by the ServerHello: none before it, and one from there on; so the session hash has the width of the hash that is carried.
-- Assumes nothing.
use mathlib.Core.Path.{◌≡◌, refl, sym, ◌∙◌, ap}
use mathlib.Core.Bool.{Bool, true, false, not, ◌&&◌, ◌||◌, true≢false, false≢true}
use mathlib.Core.List.{List, ◌++◌}
use Prim.Native.Nat.{ℕ}
use lib.Dec.{eqb}
use lib.ListN.{length}
use borrow.Author.Tests.{eqb-true, eqb-false, not-true, not-false}
use mir.Val.{bool_byte}
use Rattle.seqs.specs.Flag.{yes}
use Rattle.seqs.specs.Pick.{pick}
use Rattle.seqs.specs.Cases.{by_test, not_both, and_left, and_right}
use Rattle.message.specs.Frame.{kind_of}
use Rattle.sha256.specs.Laws.{length-sha256}
use Rattle.sha384.specs.Laws.{length-sha384}
use Rattle.transcript.specs.Choice.{Algorithm, Choice, block_of, algorithm_by}
use Rattle.transcript.specs.Choice.Algorithm.{sha_256, sha_384}
use Rattle.transcript.specs.Choice.Choice.{unchosen, chosen}
use Rattle.transcript.specs.Carries.{Carries, digest_of}
use Rattle.prf.specs.Hash.{hash_by}
use Rattle.message_log.specs.Suite.{function_of, width_of, OneHash}
use Rattle.message_log.specs.Order.{Place, turns, is_due, look, finished_due}
use Rattle.message_log.specs.History.{Beside, History, tells, place_of, hashed, choice_of, suite_of, session_hash, exchanged}
use Rattle.message_log.specs.History.History.{fresh, accepted}
use Rattle.message_log.specs.Standing.{Standing, history_of}
use Rattle.message_log.specs.Calls.{out_of_turn, in_order}
use Rattle.message_log.specs.Orders.{Chosen, SessionWidth, ChoiceMade}
use Rattle.message_log.specs.Stands.{Stands, number, hash_number}
use Rattle.message_log.specs.Steps.{InTurn, Entered}
use Rattle.message_log.specs.declared.state.Log.{Log}
use Rattle.message_log.specs.declared.state.Turn.{Turn}
use Rattle.message_log.proofs.Turns.{passes, each_place, chosen_at, exchanged_at, turned}
use Rattle.message_log.proofs.Places.{placed_says}

-- ---- what is told, in a byte

told_number : (t : Bool) → bool_byte t ≡ hash_number (algorithm_by t)
told_number true = refl
told_number false = refl

pub told_byte : {n : ℕ} (x : ℕ) → n ≡ bool_byte (yes x) → n ≡ hash_number (algorithm_by (yes x))
told_byte x e = e ∙ told_number (yes x)

told_hash : (a : Algorithm) → algorithm_by (yes (hash_number a)) ≡ a
told_hash sha_256 = refl
told_hash sha_384 = refl

pub one_hash : OneHash
one_hash = record { digest = digests; block = blocks; stated = stated }
  where
    digests : (a : Algorithm) (m : List ℕ) → digest_of a m ≡ (function_of a).hash m
    digests sha_256 m = refl
    digests sha_384 m = refl

    blocks : (a : Algorithm) → block_of a ≡ (function_of a).block
    blocks sha_256 = refl
    blocks sha_384 = refl

    stated : (t : Bool) → function_of (algorithm_by t) ≡ hash_by t
    stated true = refl
    stated false = refl

-- ---- by the place

is_chosen : Choice → Bool
is_chosen unchosen = false
is_chosen (chosen a) = true

apart : (a : Algorithm) → unchosen ≡ chosen a → ⊥
unfolding is_chosen
apart a e = false≢true (ap is_chosen e)

record ChoiceAt (n : ℕ) (h : History) : Type 0 where
  before : chosen_at n ≡ false → choice_of h ≡ unchosen
  made : chosen_at n ≡ true → Chosen h

choice_at : (h : History) → in_order h ≡ true → ChoiceAt (number (place_of h)) h
unfolding place_of in_order out_of_turn choice_of number
choice_at fresh o = record { before = λ _. refl; made = λ e. absurd (true≢false (sym e)) }
choice_at (accepted h m b) o =
    go (eqb (kind_of m) 0) refl (not-true _ (and_left (not (out_of_turn h m (tells b))) (in_order h) o))
    (choice_at h (and_right (not (out_of_turn h m (tells b))) (in_order h) o))
  where
    stays : eqb (kind_of m) 2 ≡ false → choice_of (accepted h m b) ≡ choice_of h
    stays x = rw x

    go : (z : Bool) → eqb (kind_of m) 0 ≡ z → (not z && not (is_due (kind_of m) (turns (tells b).resumes (place_of h)))) ≡ false
        → ChoiceAt (number (place_of h)) h
        → ChoiceAt (number (pick z (place_of h) (look (kind_of m) (turns (tells b).resumes (place_of h))))) (accepted h m b)
    go true e f c =
        let k = eqb-true (kind_of m) 0 e in
        record { before = λ x. rw k (c.before x); made = λ x. let y = c.made x in record { hash = y.hash; made = rw k y.made } }
    go false e f c =
        let t = turned (tells b).resumes (place_of h) (kind_of m) (not-false _ f) in
        by_test (eqb (kind_of m) 2)
        (λ x. record { before = λ y. not_both (t.chosen ∙ (rw x)) y; made = λ _. record { hash = (tells b).hash; made = rw x } })
        (λ x.
        let s : chosen_at (number (look (kind_of m) (turns (tells b).resumes (place_of h)))) ≡ chosen_at (number (place_of h)) = t.chosen ∙ (rw x) in
        record {
          before = λ y. stays x ∙ c.before (sym s ∙ y);
          made = λ y. let w = c.made (sym s ∙ y) in record { hash = w.hash; made = stays x ∙ w.made };
        })

pub unchosen_not : (h : History) → in_order h ≡ true → chosen_at (number (place_of h)) ≡ true → choice_of h ≡ unchosen → ⊥
unchosen_not h o e u = let c = (choice_at h o).made e in apart c.hash (sym u ∙ c.made)

-- where a ClientKeyExchange was accepted or a Finished is due a ServerHello was accepted
behind : (p : Place) → (exchanged_at (number p) || finished_due p) ≡ true → chosen_at (number p) ≡ true
unfolding passes number finished_due turns is_due
behind p e =
    or_all (exchanged_at (number p) || finished_due p) (chosen_at (number p)) e
    (each_place (λ q. not (exchanged_at (number q) || finished_due q) || chosen_at (number q)) refl p)
  where
    or_all : (a b : Bool) → a ≡ true → (not a || b) ≡ true → b ≡ true
    or_all true b x y = y
    or_all false b x y = absurd (true≢false (sym x))

pub choice_made : ChoiceMade
choice_made h o e =
    let s = placed_says (number (place_of h)) h (record { number = refl; order = o }) in
    (choice_at h o).made (behind (place_of h) (rw s.exchanged at e))

-- ---- a log that a message has entered

-- none is chosen where a ServerHello is in turn
pub none_chosen : (h : History) (resumes : Bool) → in_order h ≡ true → is_due 2 (turns resumes (place_of h)) ≡ true → choice_of h ≡ unchosen
none_chosen h resumes o d = (choice_at h o).before (turned resumes (place_of h) 2 d).once

pub hash_stands : (log : Log) (s : Standing) (m bytes l : List ℕ) (b : Beside) (t : Turn) (r : Log) (worked : Algorithm → ℕ)
    → Stands log s → InTurn (history_of s) m b t → (x : Entered log bytes t 0 r worked)
    → Carries x.hash (choice_of (history_of s)) l → Carries r.hash (choice_of (accepted (history_of s) m b)) l
unfolding choice_of
hash_stands log s m bytes l b t r worked st i x c =
    by_test (eqb (kind_of m) 2)
    (λ e.
    let q : kind_of m ≡ 2 = eqb-true (kind_of m) 2 e in
    let u : choice_of (history_of s) ≡ unchosen = none_chosen (history_of s) (tells b).resumes st.place.order (rw q at i.due) in
    let a : algorithm_by (yes t.sha384) ≡ (tells b).hash = ap (λ (i : ℕ). algorithm_by (yes i)) i.told ∙ told_hash (tells b).hash in
    rw (e, ← a) (x.chooses refl (i.kind ∙ q) l (rw u at c)))
    (λ e. rw (e, x.stays refl (λ q. eqb-false (kind_of m) 2 e (sym i.kind ∙ q))) c)

-- ---- the session hash

length-digest : (a : Algorithm) (m : List ℕ) → length (digest_of a m) ≡ width_of a
length-digest sha_256 m = length-sha256 m
length-digest sha_384 m = length-sha384 m

-- it is as wide as the hash that is carried since: behind it there is no other ServerHello
pub length-session : SessionWidth
unfolding in_order out_of_turn exchanged session_hash choice_of
length-session fresh o e = absurd (true≢false (sym e))
length-session (accepted h m b) o e =
    by_test (eqb (kind_of m) 16)
    (λ x. let k = eqb-true (kind_of m) 16 x in rw k (length-digest (suite_of h) (hashed h ++ m)))
    (λ x.
    let i : exchanged h ≡ true = rw x at e in
    let p : in_order h ≡ true = and_right (not (out_of_turn h m (tells b))) (in_order h) o in
    rw (x, two p i) (length-session h p i))
  where
    due : kind_of m ≡ 2 → is_due 2 (turns (tells b).resumes (place_of h)) ≡ true
    due q =
        let d : out_of_turn h m (tells b) ≡ false = not-true (out_of_turn h m (tells b)) (and_left (not (out_of_turn h m (tells b))) (in_order h) o) in
        let e : not (is_due 2 (turns (tells b).resumes (place_of h))) ≡ false = rw q at d in
        not-false (is_due 2 (turns (tells b).resumes (place_of h))) e

    two : in_order h ≡ true → exchanged h ≡ true → eqb (kind_of m) 2 ≡ false
    two p i =
        by_test (eqb (kind_of m) 2)
        (λ y.
        let u : choice_of h ≡ unchosen = none_chosen h (tells b).resumes p (due (eqb-true (kind_of m) 2 y)) in
        let q : (exchanged h || finished_due (place_of h)) ≡ true = rw i in
        let c = choice_made h p q in
        absurd (apart c.hash (sym u ∙ c.made)))
        (λ y. y)
