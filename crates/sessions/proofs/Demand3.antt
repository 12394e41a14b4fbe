-- The proof of the tender's third condition, which specs/Demand3.antt states: by induction on the run, with the book that the
-- table keeps beside it.
-- Assumes nothing.
use mathlib.Core.Path.{◌≡◌, refl, sym, ◌∙◌, ap, ap₂}
use mathlib.Core.Bool.{true, false}
use mathlib.Core.List.{List, ◌∷◌}
use mathlib.Core.Logic.{⊎_elim}
use mathlib.Core.Option.{Option, none, some}
use Prim.Native.Nat.{ℕ, ◌≤◌}
use native.Mathlib.Omega.{arith}
use lib.Dec.{eqb, ltb}
use lib.ListN.{length, take, drop}
use lib.Seq.{take_at}
use borrow.Author.Tests.{eq-eqb, eqb-true, le-leb, ltb-false}
use Rattle.seqs.specs.Flag.{yes, bit}
use Rattle.seqs.proofs.Flag.{yes_bit}
use Rattle.seqs.specs.Pick.{pick}
use Rattle.refusal.specs.First.{first_of}
use Rattle.refusal.specs.Listed.{row_number}
use Rattle.seqs.specs.Cases.{which}
use Rattle.sessions.specs.Book.{Session, Book, empty, there, is_named, sought, bad_name, too_short, store_number, look_up_number, withdraw_number, held_number, granted, handed, holds, is_name, look_up, Answer, looked, withdrew, counted, answer, after, answers_from, book_from, number_of}
use Rattle.sessions.specs.History.{Event, History, calls_of, answers_of, latest, since, latest_from, since_from, noted, further}
use Rattle.sessions.specs.Keeps.{Formed, Each, Keeps}
use Rattle.sessions.specs.Promises.{LooksUp, with_ems, suite_of, looked_of, output_of, withdrawn_of, held_of}
use Rattle.sessions.specs.Demand3.{found_by, Step, storing, looking, withdrawing, counting, clearing, Run, done, next, Theorem}
use Rattle.sessions.specs.declared.table.Table.{Table}
use Rattle.sessions.specs.declared.calls.Looked.{Looked}
use Rattle.sessions.proofs.Books.{oldest_meets, oldest_each}
use Rattle.sessions.proofs.Names.{named_name, name_axle, name_identifier}
use Rattle.sessions.proofs.Track.{Track, track_none, track_call}

-- ---- a look-up hands back the session of the book

-- the output of a look-up that was not refused was long enough
fits : (a : ℕ) (i out : List ℕ) (b : Book) (s : Session) → sought a i b ≡ some s → look_up_number a i out b ≡ 0 → length s.secret ≤ length out
unfolding look_up_number first_of too_short
fits a i out b s e z =
    ⊎_elim
    (λ (h : bad_name a i ≡ true). let x : ◌≡◌ {A = ℕ} 11 0 = rw h at z in absurd (omega arith))
    (λ (h : bad_name a i ≡ false).
    ⊎_elim
    (λ (k : ltb (length out) (length s.secret) ≡ true). let x : ◌≡◌ {A = ℕ} 10 0 = rw (h, e, k) at z in absurd (omega arith))
    (λ (k : ltb (length out) (length s.secret) ≡ false). ltb-false (length out) (length s.secret) k)
    (which (ltb (length out) (length s.secret))))
    (which (bad_name a i))

-- flags and bytes, read again, are the session
handed_back : (a : ℕ) (i out : List ℕ) (o : Option Session)
    → ((s : Session) → o ≡ some s → (s.axle ≡ a) × (s.identifier ≡ i) × (length s.secret ≡ 48) × (length s.secret ≤ length out))
    → pick (yes (bit (there o))) (some (record { axle = a; identifier = i; ems = yes (bit (with_ems o)); suite = suite_of o; secret = take 48 (handed out o) })) none ≡ o
handed_back a i out none h = refl
handed_back a i out (some s) h =
    let k = h s refl in
    rw (yes_bit s.ems, le-leb (length s.secret) (length out) k.3, take_at s.secret (drop (length s.secret) out) 48 k.2, ← k.0, ← k.1)

found_is : (a : ℕ) (i out : List ℕ) (b : Book) → Each Formed b
    → found_by a i (looked_of a i out b) (output_of a i out b) ≡ granted (look_up_number a i out b) (sought a i b) none
unfolding looked_of output_of
found_is a i out b f =
    ⊎_elim
    (λ (y : eqb (look_up_number a i out b) 0 ≡ true).
    rw y
    (handed_back a i out (sought a i b)
    (λ s e.
    let m : is_name a i s.axle s.identifier ≡ true = named_name a i s (oldest_meets (is_named a i) b s e) in
    (name_axle a i s.axle s.identifier m, name_identifier a i s.axle s.identifier m, (oldest_each (is_named a i) Formed b s f e).secret_is, fits a i out b s e (eqb-true (look_up_number a i out b) 0 y)))))
    (λ (n : eqb (look_up_number a i out b) 0 ≡ false). rw n)
    (which (eqb (look_up_number a i out b) 0))

-- a look-up after the list
found_after : (t : Table) (b : Book) (a : ℕ) (i out : List ℕ) (r : Looked) (out' : List ℕ) → Keeps t b → LooksUp t a i out r out' → r.refusal.number ≡ 0
    → found_by a i r out' ≡ sought a i b
unfolding looked_of
found_after t b a i out r out' k p z =
    let q = p.answers b k in
    let n : look_up_number a i out b ≡ 0 = sym (row_number (look_up_number a i out b)) ∙ ap (λ (x : Looked). x.refusal.number) (sym q.returned) ∙ z in
    rw (q.returned, q.output) (found_is a i out b k.sound.formed ∙ (rw (eq-eqb (look_up_number a i out b) 0 n)))

-- ---- a step

outputs : (a : ℕ) (i out : List ℕ) (b : Book)
    → looked (looked_of a i out b).refusal.number (granted (look_up_number a i out b) (sought a i b) none) (output_of a i out b)
    ≡ looked (look_up_number a i out b) (granted (look_up_number a i out b) (sought a i b) none) (granted (look_up_number a i out b) (handed out (sought a i b)) out)
unfolding looked_of output_of
outputs a i out b = rw (row_number (look_up_number a i out b))

looked_is : (a : ℕ) (i out : List ℕ) (b : Book) → Each Formed b
    → looked (looked_of a i out b).refusal.number (found_by a i (looked_of a i out b) (output_of a i out b)) (output_of a i out b) ≡ answer b (look_up a i out)
unfolding answer
looked_is a i out b f = rw (found_is a i out b f) (outputs a i out b)

withdrawn_is : (a : ℕ) (i : List ℕ) (b : Book)
    → withdrew (withdraw_number a i) (yes (withdrawn_of a i b)) ≡ withdrew (withdraw_number a i) (granted (withdraw_number a i) (there (sought a i b)) false)
unfolding withdrawn_of
withdrawn_is a i b = rw (yes_bit (granted (withdraw_number a i) (there (sought a i b)) false))

held_is : (a : ℕ) (b : Book) → counted (held_of a b).refusal.number (held_of a b).count ≡ counted (held_number a) (granted (held_number a) (holds a b) 0)
unfolding held_of
held_is a b = rw (row_number (held_number a))

step_answer : (b : Book) (t t' : Table) (e : Event) → Step t e t' → Keeps t b → e.answer ≡ answer b e.call
unfolding answer
step_answer b t t' e (storing {s = s} p) k = rw (p.refusal, row_number (store_number s))
step_answer b t t' e (looking {a = a} {i = i} {out = out} p) k =
    let q = p.answers b k in
    rw (q.returned, q.output) (looked_is a i out b k.sound.formed)
step_answer b t t' e (withdrawing {a = a} {i = i} p) k = rw (p.refusal, row_number (withdraw_number a i), p.answers b k) (withdrawn_is a i b)
step_answer b t t' e (counting {a = a} p) k = rw (p.answers b k) (held_is a b)
step_answer b t t' e (clearing p) k = rw (p.refusal, row_number 0)

step_keeps : (b : Book) (t t' : Table) (e : Event) → Step t e t' → Keeps t b → Keeps t' (after b e.call)
unfolding after
step_keeps b t t' e (storing p) k = p.keeps b k
step_keeps b t t' e (looking p) k = k
step_keeps b t t' e (withdrawing p) k = p.keeps b k
step_keeps b t t' e (counting p) k = k
step_keeps b t t' e (clearing p) k = p.keeps

-- ---- a run

run_answers : (b : Book) (t t' : Table) (h : History) → Run t h t' → Keeps t b → answers_of h ≡ answers_from b (calls_of h)
unfolding answers_from
run_answers b t t' h done k = refl
run_answers b t t'' h (next {t' = t'} {e = e} {h = h'} s r) k =
    ap₂ {C = List Answer} (λ x y. x ∷ y) (step_answer b t t' e s k) (run_answers (after b e.call) t' t'' h' r (step_keeps b t t' e s k))

run_keeps : (b : Book) (t t' : Table) (h : History) → Run t h t' → Keeps t b → Keeps t' (book_from b (calls_of h))
unfolding book_from
run_keeps b t t' h done k = k
run_keeps b t t'' h (next {t' = t'} {e = e} {h = h'} s r) k = run_keeps (after b e.call) t' t'' h' r (step_keeps b t t' e s k)

run_track : (a : ℕ) (i : List ℕ) (b : Book) (l : Option Session) (n : ℕ) (t t' : Table) (h : History) → Run t h t' → Keeps t b → Track a i b l n n
    → Track a i (book_from b (calls_of h)) (latest_from a i l h) (since_from a i n h) (since_from a i n h)
unfolding book_from latest_from since_from
run_track a i b l n t t' h done k x = x
run_track a i b l n t t'' h (next {t' = t'} {e = e} {h = h'} s r) k x =
    let m = number_of e.answer in
    let x' : Track a i (after b e.call) (noted a i e.call m l) (further a i e.call m n) (further a i e.call m n) =
    rw (step_answer b t t' e s k) (track_call a i b l n e.call k.sound x) in
    run_track a i (after b e.call) (noted a i e.call m l) (further a i e.call m n) t' t'' h' r (step_keeps b t t' e s k) x'

-- ---- the condition

pub demand3 : Theorem
demand3 t t' h s r =
    let k = run_keeps empty t t' h r s.keeps in
    let b = book_from empty (calls_of h) in
    let x : (a : ℕ) (i : List ℕ) → Track a i b (latest a i h) (since a i h) (since a i h) =
    λ a i. run_track a i empty none 0 t t' h r s.keeps (track_none a i 0 0) in
    record {
      answers = run_answers empty t t' h r s.keeps;
      finds = λ a i out q out' p z. rw (found_after t' b a i out q out' k p z) (x a i).finds;
      stays = λ a i out q out' p z w. found_after t' b a i out q out' k p z ∙ (x a i).stays w;
      keeps = k;
      eight = k.sound.eight;
      thirty_two = k.sound.thirty_two;
    }
