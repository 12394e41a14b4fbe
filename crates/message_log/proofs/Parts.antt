-- Order 4's theorem: each part leads to a log between parts of which as much is known as before, and the last one to the log that the
-- single call gives, for a log is one value for what it stands for.
-- Assumes nothing.
use mathlib.Core.Path.{◌≡◌, refl, sym, ◌∙◌, ap, ap₂}
use mathlib.Core.Bool.{Bool, true, false, not}
use mathlib.Core.Logic.{◌⊎◌, inl, inr}
use mathlib.Core.List.{List, [], ◌∷◌, ◌++◌, append-nil, append_assoc}
use Prim.Native.Nat.{ℕ, ◌+◌, ◌*◌, ◌≤◌}
use native.Mathlib.Nat.{add-zero}
use native.Mathlib.Omega.{arith}
use lib.Dec.{eqb}
use lib.ListN.{length, take, length-append}
use lib.Seq.{take_all, length-take-le}
use borrow.Author.Tests.{eq-eqb, ne_eqb, eqb-true, not-false}
use Rattle.seqs.specs.Pick.{pick}
use Rattle.seqs.specs.Cases.{by_test}
use Rattle.refusal.specs.First.{first_of}
use Rattle.refusal.proofs.First.{first_zero}
use Rattle.refusal.specs.Table.{refusal_of, refusal_at}
use Rattle.refusal.specs.Listed.{anywhere, numbered, numbered_at}
use Rattle.refusal.specs.declared.Refusal.{Refusal}
use Rattle.message.specs.Frame.{kind_of}
use Rattle.transcript.specs.Choice.{Algorithm}
use Rattle.transcript.specs.Allowance.{room, blocks}
use Rattle.transcript.specs.Laws.{let_in-room, let_in-blocks, blocks_append}
use Rattle.transcript.proofs.Room.{tight}
use Rattle.message_log.specs.Told.{Told}
use Rattle.message_log.specs.History.{History, hashed, choice_of}
use Rattle.message_log.specs.History.History.{accepted}
use Rattle.message_log.specs.History.Beside.{told}
use Rattle.message_log.specs.Standing.{Standing, Part, history_of, entered, left_of}
use Rattle.message_log.specs.Standing.Standing.{whole, parted}
use Rattle.message_log.specs.Calls.{broken_at, accept_number, after_accept, session_number, session_hash_of}
use Rattle.message_log.specs.Finish.{expected_number, expected_of}
use Rattle.message_log.specs.Feed.{bad_allowance, begun, feed_number, lets, got_by, blocks_by, takes, feed_taken, feed_blocks, after_feed}
use Rattle.message_log.specs.Stands.{Stands}
use Rattle.message_log.specs.Promise.{blocks_of}
use Rattle.message_log.specs.Parts.{Feeding, Taken, Parts, bytes_taken, blocks_worked, AsOne, PartByPart, Progress, WithinAllowance, OnlyTheNext}
use Rattle.message_log.specs.Parts.Parts.{last, part}
use Rattle.message_log.specs.declared.state.Log.{Log}
use Rattle.message_log.specs.declared.answers.SessionHash.{SessionHash}
use Rattle.message_log.specs.declared.answers.Expected.{Expected}
use Rattle.message_log.proofs.Alone.{alone}
use Rattle.message_log.proofs.Messages.{fine}
use Rattle.message_log.proofs.Heads.{kind_front}
use Rattle.message_log.proofs.Accepting.{accept_between}
use Rattle.message_log.proofs.Finishing.{finish_between}
use Rattle.message_log.proofs.Feeding.{allowance_good}

-- a call that is not refused has an allowance
good : (s : Standing) (rest : List ℕ) (k : ℕ) (tell : Told) → feed_number s rest k tell ≡ 0 → bad_allowance k ≡ false
unfolding feed_number first_of
good (whole h) rest k tell e = by_test (bad_allowance k) (λ b. absurd (omega (arith, rw b at e))) (λ b. b)
good (parted h p) rest k tell e = by_test (bad_allowance k) (λ b. absurd (omega (arith, rw b at e))) (λ b. b)

-- a first part is accepted as the message that it begins, and a later one has the length that is due
first : (h : History) (rest : List ℕ) (k : ℕ) (tell : Told) → feed_number (whole h) rest k tell ≡ 0 → accept_number (whole h) rest tell ≡ 0
unfolding feed_number
first h rest k tell e = rw (good (whole h) rest k tell e) at e

later : (h : History) (p : Part) (rest : List ℕ) (k : ℕ) (tell : Told) → feed_number (parted h p) rest k tell ≡ 0 → length rest ≡ left_of p
unfolding feed_number
later h p rest k tell e =
    let none = first_zero ((10, bad_allowance k) ∷ (10, not (eqb (length rest) (left_of p))) ∷ []) refl e in
    eqb-true (length rest) (left_of p) (not-false _ none.1.0)

-- ---- one call

module _ (log : Log) (s : Standing) (f : Feeding) (st : Stands log s) (t : Taken log f) where
  -- it is not refused, and takes what the allowance lets in
  pub number : feed_number s f.rest f.allowance f.tell ≡ 0
  number = sym (numbered_at (feed_number s f.rest f.allowance f.tell) (broken_at f.rest) f.answer.refusal (t.feeds.refusal s st)) ∙ t.done

  pub taken : f.answer.taken ≡ lets s f.rest f.allowance
  unfolding feed_taken
  taken = t.feeds.taken s st ∙ (rw number)

  pub worked : (a : Algorithm) → blocks_of f.answer.blocks a ≡ blocks_by s f.rest f.answer.taken f.tell a
  unfolding feed_blocks
  worked a = t.feeds.blocks s st a ∙ (rw (number, taken))

  pub leaves : Stands f.answer.log (takes s f.rest f.answer.taken f.tell)
  unfolding after_feed
  leaves = rw taken (rw number at (t.feeds.stands s st))

  -- all of the rest
  pub leaves_all : f.answer.taken ≡ length f.rest
      → Stands f.answer.log (whole (accepted (history_of s) (got_by s f.rest f.answer.taken f.tell) (told (begun s f.rest f.tell).tell)))
  unfolding takes
  leaves_all e = rw (eq-eqb f.answer.taken (length f.rest) e) at leaves

  -- or a part of it
  pub leaves_part : (f.answer.taken ≡ length f.rest → ⊥)
      → Stands f.answer.log
      (parted (history_of s)
      (record {
        got = got_by s f.rest f.answer.taken f.tell;
        total = (begun s f.rest f.tell).total;
        tell = (begun s f.rest f.tell).tell;
      }))
  unfolding takes
  leaves_part e = rw (ne_eqb f.answer.taken (length f.rest) e) at leaves

pub progress : Progress
progress log s f st t = by_sum (let_in-blocks (choice_of (history_of s)) f.allowance (entered s) (length f.rest))
  where
    by_sum : (lets s f.rest f.allowance ≡ length f.rest) ⊎ (64 * f.allowance ≤ lets s f.rest f.allowance)
        → (f.answer.taken ≡ length f.rest) ⊎ ((1 ≤ f.allowance) × (64 * f.allowance ≤ f.answer.taken))
    by_sum (inl e) = inl (taken log s f st t ∙ e)
    by_sum (inr e) =
        inr ((allowance_good f.allowance (good s f.rest f.allowance f.tell (number log s f st t))).0, omega (arith, taken log s f st t, e))

pub within_allowance : WithinAllowance
unfolding blocks_by
within_allowance log s f st t a =
    let c = choice_of (history_of s) in
    let n = f.answer.taken in
    let k = f.allowance in
    let m : length (take n f.rest) ≡ n = length-take-le n f.rest t.feeds.within in
    let r : n ≤ room c k (entered s) = omega (arith, taken log s f st t, let_in-room c k (entered s) (length f.rest)) in
    let b : blocks c a (entered s) (take n f.rest) ≤ k = (tight c k (entered s) (take n f.rest)).0 (omega (arith, m, r)) a in
    omega (arith, worked log s f st t a, picked (eqb (kind_of (got_by s f.rest n f.tell)) 0) _ k b)
  where
    picked : (z : Bool) (i j : ℕ) → i ≤ j → pick z 0 i ≤ j
    picked true i j h = omega arith
    picked false i j h = h

-- ---- the parts behind the first

record Goes (log' : Log) (h : History) (p : Part) (fs : List Feeding) : Type 0 where
  stands : Stands log' (whole (accepted h (p.got ++ bytes_taken fs) (told p.tell)))
  left : length (bytes_taken fs) ≡ left_of p
  worked : (a : Algorithm) → blocks_worked fs a ≡ blocks (choice_of h) a (hashed h ++ p.got) (bytes_taken fs)

-- a message between parts is hashed
worked_part : (log : Log) (h : History) (p : Part) (f : Feeding) → Stands log (parted h p) → Taken log f
    → (a : Algorithm) → blocks_of f.answer.blocks a ≡ blocks (choice_of h) a (hashed h ++ p.got) (take f.answer.taken f.rest)
unfolding blocks_by
worked_part log h p f st t a =
    let b = take f.answer.taken f.rest in
    let k : kind_of (p.got ++ b) ≡ kind_of p.got = kind_front p.got b (omega (arith, st.part.header)) in
    worked log (parted h p) f st t a ∙ (rw (ne_eqb (kind_of (p.got ++ b)) 0 (λ z. st.part.hashed (sym k ∙ z))))

go : (log log' : Log) (h : History) (p : Part) (fs : List Feeding) → Stands log (parted h p) → Parts log fs log' → Goes log' h p fs
unfolding bytes_taken blocks_worked
go log log' h p fs st (last {f = f} t e) =
    let b : take f.answer.taken f.rest ≡ f.rest = take_all f.answer.taken f.rest (omega arith) in
    record {
      stands = rw append-nil (leaves_all log (parted h p) f st t e);
      left = rw (append-nil, b) (later h p f.rest f.allowance f.tell (number log (parted h p) f st t));
      worked = λ i. rw (append-nil, add-zero) (worked_part log h p f st t i);
    }
go log log' h p fs st (part {f = f} {fs = gs} t e r) =
    let n = f.answer.taken in
    let a = take n f.rest in
    let q : Part = record { got = p.got ++ a; total = p.total; tell = p.tell } in
    let s : Stands f.answer.log (parted h q) = leaves_part log (parted h p) f st t e in
    let g = go f.answer.log log' h q gs s r in
    record {
      stands = rw (← append_assoc) g.stands;
      left = length-append a (bytes_taken gs) ∙ (omega (arith, g.left, length-append p.got a, s.part.some));
      worked =
          λ i.
          ap₂ (λ (x y : ℕ). x + y) (worked_part log h p f st t i) (g.worked i ∙ ap (λ (l : List ℕ). blocks (choice_of h) i l (bytes_taken gs)) (sym (append_assoc (hashed h) p.got a)))
          ∙ blocks_append (choice_of h) i (hashed h ++ p.got) a (bytes_taken gs);
    }

-- ---- the whole run

module _ (log log' : Log) (h : History) (m : List ℕ) (tell : Told) (count : Algorithm → ℕ) (st : Stands log (whole h)) where
  as_one : accept_number (whole h) m tell ≡ 0 → Stands log' (whole (accepted h m (told tell)))
      → ((a : Algorithm) → count a ≡ pick (eqb (kind_of m) 0) 0 (blocks (choice_of h) a (hashed h) m)) → AsOne log log' h m tell count
  unfolding after_accept
  as_one e s w =
      record {
        accepts = e;
        same = λ r a. alone r.log log' (whole (accepted h m (told tell))) (rw e at (a.stands (whole h) st)) s;
        stands = s;
        worked = w;
      }

pub part_by_part : PartByPart
unfolding bytes_taken blocks_worked blocks_by
part_by_part log log' h f fs st (last t e) =
    let b : take f.answer.taken f.rest ≡ f.rest = take_all f.answer.taken f.rest (omega arith) in
    as_one log log' h (take f.answer.taken f.rest ++ []) f.tell (λ a. blocks_of f.answer.blocks a + 0) st
    (rw (append-nil, b) (first h f.rest f.allowance f.tell (number log (whole h) f st t)))
    (rw append-nil (leaves_all log (whole h) f st t e))
    (λ a. rw (append-nil, add-zero) (worked log (whole h) f st t a))
part_by_part log log' h f fs st (part t e r) =
    let a = take f.answer.taken f.rest in
    let q : Part = record { got = a; total = length f.rest; tell = f.tell } in
    let s : Stands f.answer.log (parted h q) = leaves_part log (whole h) f st t e in
    let g = go f.answer.log log' h q fs s r in
    let k : kind_of (a ++ bytes_taken fs) ≡ kind_of a = kind_front a (bytes_taken fs) (omega (arith, s.part.header)) in
    let z : eqb (kind_of a) 0 ≡ false = ne_eqb (kind_of a) 0 s.part.hashed in
    as_one log log' h (a ++ bytes_taken fs) f.tell (λ i. blocks_of f.answer.blocks i + blocks_worked fs i) st (s.part.judged (bytes_taken fs) g.left) g.stands
    (λ i.
    rw (k, z)
    (ap₂ (λ (x y : ℕ). x + y) (worked log (whole h) f st t i ∙ (rw z)) (g.worked i) ∙ blocks_append (choice_of h) i (hashed h) a (bytes_taken fs)))

-- ---- between parts

pub only_the_next : OnlyTheNext
unfolding expected_of expected_number session_hash_of session_number first_of
only_the_next log h p st =
    record {
      accepts =
          λ m tell r a e.
          let d : r.refusal ≡ refusal_of 7 = seven m (a.refusal (parted h p) st ∙ ap (λ (n : ℕ). refusal_at n (broken_at m)) (accept_between m tell (fine m e) (parted h p) refl)) in
          (d, a.kept (refuses d));
      finishes =
          λ secret m r f n e.
          let d : r.refusal ≡ refusal_of 7 = seven m (f.refusal (parted h p) st ∙ ap (λ (i : ℕ). refusal_at i (broken_at m)) (finish_between secret m n (fine m e) (parted h p) refl)) in
          (d, f.kept (refuses d));
      expects = λ secret r x n. ap (λ (y : Expected). y.refusal) (x.answer (parted h p) st) ∙ (rw (eq-eqb (length secret) 48 n));
      hashes = λ r x. ap (λ (y : SessionHash). y.refusal) (x.answer (parted h p) st);
    }
  where
    seven : {r : Refusal} (m : List ℕ) → r ≡ refusal_at 7 (broken_at m) → r ≡ refusal_of 7
    seven m e = e ∙ sym (anywhere 7 (broken_at m) refl)

    refuses : {r : Refusal} → r ≡ refusal_of 7 → r.number ≡ 0 → ⊥
    refuses {r} d z = omega (arith, numbered 7 r d, z)
