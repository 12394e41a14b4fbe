-- A Finished, and what is expected of it: the number at each way out, and what is promised there.
-- Assumes nothing.
use mathlib.Core.Path.{◌≡◌, refl, sym, ◌∙◌, ap}
use mathlib.Core.Bool.{Bool, true, false, not, ◌&&◌, false≢true}
use mathlib.Core.List.{List, [], ◌∷◌, append-nil}
use Rattle.std.proofs.Common.{Option, Some, None, Result, Ok, Err}
use Rattle.std.specs.Option.{ok_or}
use Prim.Native.Nat.{ℕ, ◌≤◌, ◌<◌}
use native.Mathlib.Omega.{arith}
use lib.ListN.{length, replicate}
use borrow.Author.Tests.{eq-eqb, ne_eqb}
use Rattle.seqs.specs.Pick.{pick}
use Rattle.refusal.specs.First.{first_of}
use Rattle.refusal.proofs.First.{first_passed, first_front}
use Rattle.refusal.specs.Table.{refusal_of, refusal_at}
use Rattle.refusal.specs.Listed.{anywhere, listed, row_number, numbered_at, row_at, listed_at}
use Rattle.refusal.specs.Reason.{number_for, refusal_for, refused}
use Rattle.refusal.specs.declared.reason.Reason.{Reason}
use Rattle.refusal.specs.declared.reason.Reason.TheVariants.{OutOfTurn, Differs, Length}
use Rattle.octets.specs.Same.{same}
use Rattle.octets.specs.Equal.{same_true}
use Rattle.message.specs.Frame.{kind_of, body_of, overlong, misstated}
use Rattle.transcript.specs.Choice.{Algorithm}
use Rattle.transcript.specs.Carries.{digest_of}
use Rattle.transcript.specs.Promise.{Enters}
use Rattle.transcript.specs.declared.Transcript.{Transcript}
use Rattle.prf.specs.Promise.{verify_number, verified_of}
use Rattle.prf.specs.Hash.{HashFunction}
use Rattle.prf.specs.Secrets.{verify_data}
use Rattle.message_log.specs.Suite.{function_of}
use Rattle.message_log.specs.Order.{finished_due}
use Rattle.message_log.specs.History.{History, tells, place_of, hashed, choice_of, suite_of, from_server, is_from}
use Rattle.message_log.specs.History.Beside.{under}
use Rattle.message_log.specs.Standing.{Standing, history_of, between}
use Rattle.message_log.specs.Standing.Standing.{whole, parted}
use Rattle.message_log.specs.Calls.{misshapen, shape_number, broken_at, is_finished}
use Rattle.message_log.specs.Finish.{expected_value, expected_number, expected_of, finish_number, after_finish, Compared}
use Rattle.message_log.specs.Stands.{Stands, Placed, number}
use Rattle.message_log.specs.Promise.{Finishes, Expects}
use Rattle.message_log.specs.Places.{read, DueTo, IsDue, IsDueTo}
use Rattle.message_log.specs.Steps.{Judges, InTurn, Asked, Asks, Takes}
use Rattle.message_log.specs.declared.order.Place.{Place as Held}
use Rattle.message_log.specs.declared.order.Due.{Due}
use Rattle.message_log.proofs.Held.{undue_past}
use Rattle.message_log.specs.declared.state.Turn.{Turn}
use Rattle.message_log.specs.declared.state.Log.{Log}
use Rattle.message_log.specs.declared.answers.Expected.{Expected}
use Rattle.message_log.proofs.Reasons.{for_number, refuses, out_of_turn_at, differs_at, length_at, done_at}
use Rattle.message_log.proofs.Messages.{Fine, fine, well_shaped, shape_most}
use Rattle.message_log.proofs.Standing.{by_whole, by_parted, far, carried, taking_stands}

-- a secret of 48 bytes is not refused
module _ (H : HashFunction) (secret : List ℕ) (b : Bool) (hash : List ℕ) where
  pub not_refused : (r : Result (List ℕ) Reason) → length secret ≡ 48 → refused r ≡ verified_of H secret b hash → r ≡ Ok (verify_data H secret b hash)
  unfolding verified_of verify_number first_of
  not_refused (Ok x) n e = let f : Ok x ≡ Ok (verify_data H secret b hash) = rw (eq-eqb (length secret) 48 n) at e in cc
  not_refused (Err r) n e = let f : Err (refusal_for r) ≡ Ok (verify_data H secret b hash) = rw (eq-eqb (length secret) 48 n) at e in absurd cc

-- verify_data of the Finished that is due, from what the calls answer
pub expected_by : (h : History) (secret hash value : List ℕ) (b : Bool) (a : Algorithm) → value ≡ verify_data (function_of a) secret b hash
    → b ≡ from_server h → suite_of h ≡ a → hash ≡ digest_of a (hashed h) → value ≡ expected_value h secret
unfolding expected_value
expected_by h secret hash value b a e f i g = rw (← f, i, ← g) e

-- is one due, as the log has it: between parts none is
module _ (log : Log) where
  pub parted_undue : (log.left ≡ 0 → ⊥) → (s : Standing) → Stands log s → (not (between s) && finished_due (place_of (history_of s))) ≡ false
  parted_undue n s st = rw (by_parted log n s st)

  pub unplaced_undue : 16 < log.place → (s : Standing) → Stands log s → (not (between s) && finished_due (place_of (history_of s))) ≡ false
  unplaced_undue l s st = rw (undue_past log.place l (place_of (history_of s)) st.place.number) (and_false (not (between s)))
    where
      and_false : (b : Bool) → (b && false) ≡ false
      and_false true = refl
      and_false false = refl

  pub placed_due : log.left ≡ 0 → (place : Held) → log.place ≡ number (read place) → (r : Option Due)
      → ((h : History) → Placed (number (read place)) h → IsDue h r) → (s : Standing) → Stands log s → IsDueTo s r
  placed_due e place f r d = by_whole log e (λ (s : Standing). IsDueTo s r) (λ h st. go h r (d h (rw f at st.place)))
    where
      go : (h : History) (r : Option Due) → IsDue h r → IsDueTo (whole h) r
      go h None x = x
      go h (Some due) x = (refl, x)

-- where one is due no message is between parts
due_whole : (log : Log) (due : Due) → ((s : Standing) → Stands log s → (between s ≡ false) × DueTo (history_of s) due)
    → (P : Standing → Type 0) → ((h : History) → Stands log (whole h) → DueTo h due → P (whole h)) → (s : Standing) → Stands log s → P s
due_whole log due d P f (whole h) st = f h st (d (whole h) st).1
due_whole log due d P f (parted h p) st = absurd (false≢true (sym (d (parted h p) st).0))

-- the ways out of the call for what is expected
module _ (log : Log) (secret : List ℕ) where
  refused_expects : (r : Reason) → number_for r ≤ 11 → ((s : Standing) → Stands log s → expected_number s secret ≡ number_for r)
      → refusal_for r ≡ refusal_of (number_for r) → Expects log secret (record { refusal = refusal_for r; value = replicate 12 0 })
  unfolding expected_of
  refused_expects r l f e =
      record {
        listed = listed (number_for r) (refusal_for r) e l;
        nothing = λ _. refl;
        answer = λ s st. rw (f s st, ne_eqb (number_for r) 0 (λ z. refuses r (for_number r ∙ z)), e);
      }

  pub secret_expects : (length secret ≡ 48 → ⊥) → Expects log secret (record { refusal = refusal_for Length; value = replicate 12 0 })
  unfolding expected_number first_of refusal_of
  secret_expects n = refused_expects Length (omega arith) (λ s st. rw (ne_eqb (length secret) 48 n)) refl

  module _ (n : length secret ≡ 48) where
    pub due_expects : ((s : Standing) → Stands log s → (not (between s) && finished_due (place_of (history_of s))) ≡ false)
        → Expects log secret (record { refusal = refusal_for OutOfTurn; value = replicate 12 0 })
    unfolding expected_number first_of refusal_of
    due_expects d = refused_expects OutOfTurn (omega arith) go refl
      where
        go : (s : Standing) → Stands log s → expected_number s secret ≡ 7
        go (whole h) st = rw (eq-eqb (length secret) 48 n, d (whole h) st)
        go (parted h p) st = rw (eq-eqb (length secret) 48 n)

    pub done_expects : (due : Due) → ((s : Standing) → Stands log s → (between s ≡ false) × DueTo (history_of s) due) → (value : List ℕ)
        → ((h : History) → Stands log (whole h) → due.server ≡ from_server h → value ≡ expected_value h secret)
        → Expects log secret (record { refusal = refusal_of 0; value = value })
    unfolding expected_of expected_number first_of
    done_expects due d value f =
        record {
          listed = listed 0 (refusal_of 0) refl (omega arith);
          nothing = λ y. absurd (y (row_number 0));
          answer =
              due_whole log due d (λ (s : Standing). ◌≡◌ {A = Expected} (record { refusal = refusal_of 0; value = value }) (expected_of s secret))
              (λ h st x. rw (eq-eqb (length secret) 48 n, x.in_turn, f h st x.server));
        }

-- the number of each way out of the joined call
module _ (secret m : List ℕ) where
  finish_secret : (s : Standing) → (length secret ≡ 48 → ⊥) → finish_number s secret m ≡ 10
  unfolding finish_number first_of
  finish_secret s n = rw (ne_eqb (length secret) 48 n)

  module _ (n : length secret ≡ 48) where
    finish_shape : (s : Standing) → (shape_number m ≡ 0 → ⊥) → finish_number s secret m ≡ shape_number m
    unfolding finish_number shape_number
    finish_shape s z =
        first_passed 10 _ _ (rw (eq-eqb (length secret) 48 n)) ∙ first_front ((10, overlong m) ∷ (1, misstated m) ∷ (1, misshapen m) ∷ []) _ z

    module _ (f : Fine m) where
      -- '7 for another log call between parts'
      pub finish_between : (s : Standing) → between s ≡ true → finish_number s secret m ≡ 7
      unfolding finish_number first_of
      finish_between s e = rw (eq-eqb (length secret) 48 n, f.short, f.stated, f.shaped, e)

      pub finish_due : (h : History) (a b : Bool) → (is_finished m && finished_due (place_of h)) ≡ a → same (body_of m) (expected_value h secret) ≡ b
          → finish_number (whole h) secret m ≡ pick a (pick b 0 8) 7
      unfolding finish_number first_of
      finish_due h true true p q = rw (eq-eqb (length secret) 48 n, f.short, f.stated, f.shaped, p, q)
      finish_due h true false p q = rw (eq-eqb (length secret) 48 n, f.short, f.stated, f.shaped, p, q)
      finish_due h false b p q = rw (eq-eqb (length secret) 48 n, f.short, f.stated, f.shaped, p)

-- the ways out of what is asked first
module _ (log : Log) (secret m : List ℕ) where
  asks_refused : (n : ℕ) (r : Reason) → refusal_for r ≡ refusal_at n (broken_at m) → n ≤ 11
      → ((s : Standing) → Stands log s → finish_number s secret m ≡ n) → Asks log secret m (Err r)
  asks_refused n r d l f =
      let i : (refusal_for r).number ≡ n = numbered_at n (broken_at m) (refusal_for r) d in
      record {
        within = omega (arith, i, l);
        placed = row_at n (broken_at m) (refusal_for r) d;
        refused = λ s st. f s st ∙ sym i ∙ for_number r;
        asked = tt;
      }

  pub secret_asks : (length secret ≡ 48 → ⊥) → Asks log secret m (Err Length)
  secret_asks n = asks_refused 10 Length (length_at (broken_at m)) (omega arith) (λ s st. finish_secret secret m s n)

  module _ (n : length secret ≡ 48) where
    pub shape_asks : (r : Reason) → Judges m (Err r) → Asks log secret m (Err r)
    shape_asks r jd =
        let i : (refusal_for r).number ≡ shape_number m = numbered_at (shape_number m) (broken_at m) (refusal_for r) jd.refusal in
        asks_refused (shape_number m) r jd.refusal (omega (arith, shape_most m)) (λ s st. finish_shape secret m n s (λ e. refuses r (i ∙ e)))

    module _ (k : ℕ) (jd : Judges m (Ok k)) where
      well : Fine m
      well = fine m (well_shaped m k jd)

      -- the number 7 of both
      seven : ((h : History) → Stands log (whole h) → (is_finished m && finished_due (place_of h)) ≡ false) → Asks log secret m (Err OutOfTurn)
      seven f = asks_refused 7 OutOfTurn (out_of_turn_at (broken_at m)) (omega arith) go
        where
          go : (s : Standing) → Stands log s → finish_number s secret m ≡ 7
          go (whole h) st = finish_due secret m n well h false (same (body_of m) (expected_value h secret)) (f h st) refl
          go (parted h p) st = finish_between secret m n well (parted h p) refl

      pub kind_asks : (k ≡ 20 → ⊥) → Asks log secret m (Err OutOfTurn)
      unfolding is_finished
      kind_asks o = seven (λ h s. rw (← jd.kind, ne_eqb k 20 o))

      module _ (f : k ≡ 20) where
        pub due_asks : ((s : Standing) → Stands log s → (not (between s) && finished_due (place_of (history_of s))) ≡ false)
            → Asks log secret m (Err OutOfTurn)
        unfolding is_finished
        due_asks d = seven (λ h s. rw (eq-eqb (kind_of m) 20 (sym jd.kind ∙ f)) (d (whole h) s))

        pub done_asks : (due : Due) → ((s : Standing) → Stands log s → (between s ≡ false) × DueTo (history_of s) due) → Asks log secret m (Ok due)
        done_asks due d =
            record {
              within = omega (arith, row_number 0);
              placed = done_at (broken_at m);
              refused = tt;
              asked = record { sized = n; shape = well_shaped m k jd; kind = sym jd.kind ∙ f; due = d };
            }

    -- as the code has it
    pub due_or_not : (k : ℕ) → Judges m (Ok k) → k ≡ 20 → (r : Option Due) → ((s : Standing) → Stands log s → IsDueTo s r) → Asks log secret m (ok_or r OutOfTurn)
    due_or_not k jd f None d = due_asks k jd f d
    due_or_not k jd f (Some due) d = done_asks k jd f due d

-- the log that has taken a Finished: the message has entered, and the value stands with its side
module _ (log : Log) (m value : List ℕ) (due : Due) (q : ℕ) (d : q ≡ number (read due.next)) (hash : Transcript) (worked : Algorithm → ℕ)
    (x : Enters log.hash m hash worked) where
  -- the message, as one that is in turn
  abbrev turn : Turn
  turn = record { kind = 20; place = q; sha384 = 0 }

  in_turn : (h : History) (secret : List ℕ) → length m ≤ 16388 → DueTo h due → kind_of m ≡ 20 → InTurn h m (under secret) turn
  unfolding tells finished_due
  in_turn h secret l w k =
      record { kind = sym k; hashed = λ z. omega arith; place = rw k (d ∙ ap number w.next); told = refl; due = rw k w.in_turn; size = l }

  takes_by : (value₁ value₂ : List ℕ) → value₁ ≡ pick due.server log.client value → value₂ ≡ pick due.server value log.server
      → Takes log m value due
      (record { hash = hash; place = q; session = log.session; client = value₁; server = value₂; kind = log.kind; next = log.next; sha384 = log.sha384; left = log.left })
  unfolding choice_of is_from Compared
  takes_by value₁ value₂ f g h secret s l w c v =
      let t = in_turn h secret l w c.kind in
      let i = carried log (whole h) [] m s (sym (append-nil (hashed h))) l (far log (whole h) m (under secret) turn s t) hash worked x in
      taking_stands log (whole h) m (under secret) turn s t
      (record { hash = hash; place = q; session = log.session; client = value₁; server = value₂; kind = log.kind; next = log.next; sha384 = log.sha384; left = log.left })
      (rw c.kind i) refl refl
      (f ∙ (rw (v, w.server) (clients (from_server h)))) (g ∙ (rw (v, w.server)))
      (record { kind = s.part.kind; next = s.part.next; sha384 = s.part.sha384; left = s.part.left }) (c, s.compared)
    where
      clients : (x : Bool) → pick x log.client value ≡ pick (not x) value log.client
      clients true = refl
      clients false = refl

  pub takes_server : due.server ≡ true
      → Takes log m value due
      (record { hash = hash; place = q; session = log.session; client = log.client; server = value; kind = log.kind; next = log.next; sha384 = log.sha384; left = log.left })
  takes_server z = takes_by log.client value (rw z) (rw z)

  pub takes_client : due.server ≡ false
      → Takes log m value due
      (record { hash = hash; place = q; session = log.session; client = value; server = log.server; kind = log.kind; next = log.next; sha384 = log.sha384; left = log.left })
  takes_client z = takes_by value log.server (rw z) (rw z)

-- the ways out of the joined call
module _ (log : Log) (secret m : List ℕ) where
  refused_by : (n : ℕ) (r : Reason) → refusal_for r ≡ refusal_at n (broken_at m) → n ≤ 11
      → ((s : Standing) → Stands log s → finish_number s secret m ≡ n) → Finishes log secret m (record { refusal = refusal_for r; log = log })
  unfolding after_finish
  refused_by n r d l f =
      let z : n ≡ 0 → ⊥ = λ e. refuses r (numbered_at n (broken_at m) (refusal_for r) d ∙ e) in
      record {
        listed = listed_at n (broken_at m) (refusal_for r) d l;
        placed = row_at n (broken_at m) (refusal_for r) d;
        kept = λ _. refl;
        taken = λ x. absurd (refuses r x);
        refusal = λ s st. d ∙ ap (λ (k : ℕ). refusal_at k (broken_at m)) (sym (f s st));
        stands = λ s st. rw (f s st, ne_eqb n 0 z) st;
      }

  pub refused_finishes : (r : Reason) → Asks log secret m (Err r) → Finishes log secret m (record { refusal = refusal_for r; log = log })
  refused_finishes r o = refused_by (refusal_for r).number r o.placed o.within (λ s st. o.refused s st ∙ sym (for_number r))

  -- one that is due, by its value
  module _ (due : Due) (o : Asks log secret m (Ok due)) (value : List ℕ)
      (v : (h : History) → Stands log (whole h) → due.server ≡ from_server h → value ≡ expected_value h secret) where
    a : Asked log secret m due
    a = o.asked

    number_by : (b : Bool) → same (body_of m) value ≡ b → (s : Standing) → Stands log s → finish_number s secret m ≡ pick b 0 8
    unfolding is_finished
    number_by b e =
        due_whole log due a.due (λ (s : Standing). finish_number s secret m ≡ pick b 0 8)
        (λ h s d.
        finish_due secret m a.sized (fine m a.shape) h true b (rw (eq-eqb (kind_of m) 20 a.kind, d.in_turn)) (rw (← v h s d.server) e))

    pub differs_finishes : same (body_of m) value ≡ false → Finishes log secret m (record { refusal = refusal_for Differs; log = log })
    differs_finishes e = refused_by 8 Differs (differs_at (broken_at m)) (omega arith) (number_by false e)

    pub equal_finishes : same (body_of m) value ≡ true → (left : Log) → Takes log m value due left
        → Finishes log secret m (record { refusal = refusal_of 0; log = left })
    unfolding after_finish
    equal_finishes e left t =
        let p : refusal_of 0 ≡ refusal_at 0 (broken_at m) = anywhere 0 (broken_at m) refl in
        let same_value : body_of m ≡ value = same_true (body_of m) value e in
        let n = number_by true e in
        record {
          listed = listed_at 0 (broken_at m) (refusal_of 0) p (omega arith);
          placed = done_at (broken_at m);
          kept = λ x. absurd (x (row_number 0));
          taken = λ _. (a.kind, a.sized);
          refusal = λ s st. p ∙ ap (λ (k : ℕ). refusal_at k (broken_at m)) (sym (n s st));
          stands =
              due_whole log due a.due (λ (s : Standing). Stands left (after_finish s secret m))
              (λ h s d.
              rw (n (whole h) s)
              (t h secret s (fine m a.shape).longest d (record { kind = a.kind; sized = a.sized; value = same_value ∙ v h s d.server }) same_value));
        }
