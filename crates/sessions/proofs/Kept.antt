-- The promises of the calls, from what the functions behind them ensure of the axle's queue.
-- Assumes nothing.
use mathlib.Core.Path.{◌≡◌, refl, sym, ◌∙◌, ap}
use mathlib.Core.Bool.{Bool, true, false}
use mathlib.Core.List.{List, [], ◌∷◌, ◌++◌}
use mathlib.Core.Logic.{⊎_elim}
use mathlib.Core.Option.{none, some}
use Prim.Native.Nat.{ℕ, zero, suc, ◌-◌, ◌≤◌, ◌<◌}
use native.Mathlib.Omega.{arith}
use lib.Dec.{eqb, leb}
use lib.ListN.{length, get_or, set, replicate}
use borrow.Author.Tests.{eqb-true, eqb-false, leb-true, leb-false, ne_eqb}
use Rattle.seqs.specs.Cut.{cut}
use Rattle.seqs.proofs.Cut.{cut_past}
use Rattle.seqs.specs.Flag.{bit}
use Rattle.seqs.specs.Pick.{pick}
use Rattle.refusal.specs.Table.{refusal_of}
use Rattle.refusal.specs.Reason.{number_for, refusal_for}
use Rattle.refusal.specs.declared.Refusal.{Refusal}
use Rattle.refusal.specs.declared.reason.Reason.{Reason}
use Rattle.refusal.specs.declared.reason.Reason.TheVariants.{Name, Length}
use Rattle.std.specs.Prelude as std
use Rattle.std.specs.Prelude.{Ok, Err}
use Rattle.octets.specs.Put.{put_number, put_list}
use Rattle.refusal.specs.Listed.{row_number}
use Rattle.seqs.specs.Cases.{which, by_test, not_both}
use Rattle.sessions.specs.Book.{Session, Book, empty, many, oldest, strike, there, is_of, is_named, holds, sought, struck, written, bad_axle, bad_name, store_number, look_up_number, store, withdraw, after}
use Rattle.sessions.specs.Keeps.{Formed, Each, part_of, row_of, laid, six, table_of, Keeps, session_of, sessions_of, queue_of, held_in}
use Rattle.sessions.specs.Places.{Leaves, place_of, named_place, stored_in, looked_in, withdrawn_in}
use Rattle.sessions.specs.Promises.{Stores, weighed, looked_of, output_of, LookedUp, LooksUp, withdrawn_of, Withdraws, held_of, CountsHeld, Knows}
use Rattle.sessions.specs.declared.row.Row.{Row}
use Rattle.sessions.specs.declared.queue.Queue.{Queue}
use Rattle.sessions.specs.declared.table.Table.{Table}
use Rattle.sessions.specs.declared.calls.Looked.{Looked}
use Rattle.sessions.specs.declared.row.Weighed.{Weighed}
use Rattle.sessions.specs.declared.table.Spot.{Spot}
use Rattle.sessions.proofs.Names.{name_axle, name_identifier, named_name, named_of, of_axle, of_other}
use Rattle.sessions.proofs.Numbers.{axle_good, name_good, store_11, store_10, withdraw_11, withdraw_0, look_11, look_none, look_10, look_0, held_11, held_0}
use Rattle.sessions.proofs.Parts.{part_length, part_last, part_sought, part_goes}
use Rattle.sessions.proofs.Places.{no_row, place, place_strike, place_oldest, place_none}
use Rattle.sessions.proofs.Queues.{six_at, six_set, six_same, queues_are, laid_at, sessions_at, queue_sessions, queue_held}
use Rattle.sessions.proofs.Reasons.{reason_some, bare_row}
use Rattle.sessions.proofs.Sound.{good_axle, axle_bad, good_name, sound_empty, sound_after, struck_seven}
use Rattle.sessions.proofs.Struck.{struck_is}

-- ---- an empty table

pub keeps_empty : (t : Table) → t ≡ table_of empty → Keeps t empty
keeps_empty t e = record { table = e; sound = sound_empty }

-- ---- the place of a queue

pub place_good : (a : ℕ) → 1 ≤ a → a ≤ 6 → Ok (a - 1) ≡ place_of a
unfolding place_of
place_good a l h = rw (sym (axle_good a l h))

pub place_bad : (a : ℕ) → (1 ≤ a → a ≤ 6 → ⊥) → Err Name ≡ place_of a
unfolding place_of
place_bad a h = rw (axle_bad a h)

pub record Placed (a own : ℕ) : Type 0 where
  pub good : bad_axle a ≡ false
  pub is : suc own ≡ a
  pub six : own < 6

pub placed_ok : (a own : ℕ) → Ok own ≡ place_of a → Placed a own
unfolding place_of
placed_ok a own e =
    by_test (bad_axle a)
    (λ y. let f : Ok own ≡ Err Name = rw y at e in cc)
    (λ n.
    let f : Ok own ≡ Ok (a - 1) = rw n at e in
    let o : own ≡ a - 1 = cc in
    let g = good_axle a n in
    record { good = n; is = omega arith; six = omega arith })

pub placed_err : (a : ℕ) (e : Reason) → Err e ≡ place_of a → (e ≡ Name) × (bad_axle a ≡ true)
unfolding place_of
placed_err a e q =
    by_test (bad_axle a)
    (λ y. let f : Err e ≡ Err Name = rw y at q in (cc, y))
    (λ n. let f : Err e ≡ Ok (a - 1) = rw n at q in cc)

module _ (a : ℕ) (i : List ℕ) where
  -- by the length of the identifier
  pub named_long : 1 ≤ length i → length i ≤ 32 → place_of a ≡ named_place a i
  unfolding place_of named_place
  named_long l h =
      by_test (bad_axle a)
      (λ y. let m : bad_name a i ≡ true = by_test (bad_name a i) (λ z. z) (λ n. not_both y (sym (axle_good a (good_name a i n).0 (good_name a i n).1))) in rw (y, m))
      (λ n. rw (n, sym (name_good a i n l h)))

  pub named_bad : (1 ≤ length i → length i ≤ 32 → ⊥) → Err Name ≡ named_place a i
  unfolding named_place
  named_bad h = by_test (bad_name a i) (λ y. rw y) (λ n. let g = good_name a i n in absurd (h g.2 g.3))

  pub record Named (own : ℕ) : Type 0 where
    pub good : bad_name a i ≡ false
    pub is : suc own ≡ a
    pub six : own < 6
    pub long : length i ≤ 32

  pub named_ok : (own : ℕ) → Ok own ≡ named_place a i → Named own
  unfolding named_place
  named_ok own e =
      by_test (bad_name a i)
      (λ y. let f : Ok own ≡ Err Name = rw y at e in cc)
      (λ n.
      let f : Ok own ≡ Ok (a - 1) = rw n at e in
      let o : own ≡ a - 1 = cc in
      let g = good_name a i n in
      record { good = n; is = omega arith; six = omega arith; long = g.3 })

  pub named_err : (e : Reason) → Err e ≡ named_place a i → (e ≡ Name) × (bad_name a i ≡ true)
  unfolding named_place
  named_err e q =
      by_test (bad_name a i)
      (λ y. let f : Err e ≡ Err Name = rw y at q in (cc, y))
      (λ n. let f : Err e ≡ Ok (a - 1) = rw n at q in cc)

-- ---- one session goes

-- the queue at `from` without the session at place k: each is its axle's part of the book b'
queues_less : (t : Table) (b b' : Book) (from k : ℕ) (q : Queue) → t ≡ table_of b → from < 6
    → ((c : ℕ) → part_of c b' ≡ pick (eqb c (suc from)) (cut k (part_of c b)) (part_of c b)) → q ≡ laid (cut k (part_of (suc from) b))
    → set t.queues from q ≡ six (λ c. laid (part_of c b'))
queues_less t b b' from k q e h goes gone =
    let one : (c : ℕ) → pick (eqb c (suc from)) q (laid (part_of c b)) ≡ laid (part_of c b') =
    λ c.
    ⊎_elim
    (λ (y : eqb c (suc from) ≡ true). rw (goes c, y, eqb-true c (suc from) y) gone)
    (λ (n : eqb c (suc from) ≡ false). rw (goes c, n))
    (which (eqb c (suc from))) in
    rw (queues_are t b e) (six_set (λ c. laid (part_of c b)) from q h ∙ six_same (λ c. pick (eqb c (suc from)) q (laid (part_of c b))) (λ c. laid (part_of c b')) one)

-- or none does, and they are left as they are
queues_same : (t : Table) (b b' : Book) → t ≡ table_of b → ((c : ℕ) → part_of c b' ≡ part_of c b) → t.queues ≡ six (λ c. laid (part_of c b'))
queues_same t b b' e stay = queues_are t b e ∙ six_same (λ c. laid (part_of c b)) (λ c. laid (part_of c b')) (λ c. ap laid (sym (stay c)))

-- ---- store

-- the new session comes last in the queue at `own`
queues_more : (qs : List Queue) (b' : Book) (s : Session) (own : ℕ) (q : Queue) → qs ≡ six (λ c. laid (part_of c b')) → own < 6 → suc own ≡ s.axle
    → q ≡ laid (part_of (suc own) b' ++ (s ∷ [])) → set qs own q ≡ six (λ c. laid (part_of c (b' ++ (s ∷ []))))
queues_more qs b' s own q e h is comes =
    let one : (c : ℕ) → pick (eqb c (suc own)) q (laid (part_of c b')) ≡ laid (part_of c (b' ++ (s ∷ []))) =
    λ c.
    ⊎_elim
    (λ (y : eqb c (suc own) ≡ true). rw (part_last c b' s, y, of_axle c s (sym is ∙ sym (eqb-true c (suc own) y)), eqb-true c (suc own) y) comes)
    (λ (n : eqb c (suc own) ≡ false). rw (part_last c b' s, n, of_other c s (λ g. eqb-false c (suc own) n (sym g ∙ sym is))))
    (which (eqb c (suc own))) in
    rw e (six_set (λ c. laid (part_of c b')) own q h ∙ six_same (λ c. pick (eqb c (suc own)) q (laid (part_of c b'))) (λ c. laid (part_of c (b' ++ (s ∷ [])))) one)

-- the queues without the one that goes: each is its axle's part of what the store has left
pub one_goes : (t : Table) (i : List ℕ) (own : ℕ) (spot : Spot) (d less : Queue) → spot.queue < 6 → ((b : Book) → Keeps t b → Leaves own i b (std.Some spot))
    → ((b : Book) → get_or t.queues spot.queue d ≡ laid b → length b ≤ 8 → less ≡ laid (cut spot.place b))
    → (b : Book) → Keeps t b → set t.queues spot.queue less ≡ six (λ c. laid (part_of c (struck (suc own) i b)))
one_goes t i own spot d less six leaves gone b k =
    let e = k.table in
    let from = spot.queue in
    let eight : length (part_of (suc from) b) ≤ 8 = rw (part_length (suc from) b) (k.sound.eight (suc from)) in
    queues_less t b (struck (suc own) i b) from spot.place less e six (leaves b k) (gone (part_of (suc from) b) (laid_at t b e from d six) eight)

-- or of none
pub none_goes : (t : Table) (i : List ℕ) (own : ℕ) → ((b : Book) → Keeps t b → Leaves own i b std.None)
    → (b : Book) → Keeps t b → t.queues ≡ six (λ c. laid (part_of c (struck (suc own) i b)))
none_goes t i own leaves b k = queues_same t b (struck (suc own) i b) k.table (leaves b k)

module _ (t : Table) (s : Session) (n : ℕ) (f : Refusal) (num : n ≡ store_number s) (ref : f ≡ refusal_of n) where
  pub stores_refused : (n ≡ 0 → ⊥) → Stores t s (record { refusal = f; table = t })
  unfolding after
  stores_refused z =
      record {
        refusal = ref ∙ ap refusal_of num;
        refused = λ w. refl;
        keeps = λ b k. rw (← num, ne_eqb n 0 z) k;
      }

  -- one has gone, if any, and the new one is written last
  module _ (own : ℕ) (d : Queue) (is : suc own ≡ s.axle) (own-six : own < 6) (t₁ : Table)
      (left : (b : Book) → Keeps t b → t₁.queues ≡ six (λ c. laid (part_of c (struck (suc own) s.identifier b)))) (row : Row) (as_row : row ≡ row_of s)
      (more : Queue) (comes : (b : Book) (x : Session) → get_or t₁.queues own d ≡ laid b → row ≡ row_of x → length b ≤ 7 → more ≡ laid (b ++ (x ∷ []))) where
    stores_queues : (b : Book) → Keeps t b → set t₁.queues own more ≡ six (λ c. laid (part_of c (written s b)))
    unfolding written
    stores_queues b k =
        let b' = struck (suc own) s.identifier b in
        let at_own : get_or t₁.queues own d ≡ laid (part_of (suc own) b') = rw (left b k) (six_at (λ c. laid (part_of c b')) own d own-six) in
        let seven : length (part_of (suc own) b') ≤ 7 =
        rw (part_length (suc own) b') (struck_seven (suc own) s.identifier b b' k.sound (struck_is (suc own) s.identifier b)) in
        queues_more t₁.queues b' s own more (left b k) own-six is (comes (part_of (suc own) b') s at_own as_row seven)
        ∙ ap (λ (a : ℕ). six (λ c. laid (part_of c (struck a s.identifier b ++ (s ∷ []))))) is

    pub stores_done : n ≡ 0 → Stores t s (record { refusal = f; table = record { queues = set t₁.queues own more } })
    unfolding table_of after
    stores_done z =
        record {
          refusal = ref ∙ ap refusal_of num;
          refused = λ w. absurd (w (rw (ref, row_number n) z));
          keeps = λ b k. record { table = rw (← num, z, stores_queues b k); sound = sound_after b (store s) k.sound };
        }

module _ (t : Table) (s : Session) where
  pub stores_name : bad_name s.axle s.identifier ≡ true → Stores t s (stored_in (Err Name) t)
  unfolding refusal_of
  stores_name h = stores_refused t s 11 (refusal_of 11) (store_11 s h) refl (λ z. omega arith)

  pub stores_length : bad_name s.axle s.identifier ≡ false → (length s.secret ≡ 48 → ⊥) → Stores t s (stored_in (Err Length) t)
  unfolding refusal_of
  stores_length h n = stores_refused t s 10 (refusal_of 10) (store_10 s h n) refl (λ z. omega arith)

-- ---- look-up

-- the book's answers about a name are those of the axle's queue
seen : (t : Table) (a : ℕ) (i : List ℕ) (b : Book) → bad_name a i ≡ false → Keeps t b → sought a i b ≡ sought a i (queue_of t a)
seen t a i b good k =
    let g = good_name a i good in
    sym (part_sought a i b) ∙ ap (sought a i) (sym (queue_sessions t b k.table a g.0 g.1))

looked_same : (a : ℕ) (i out : List ℕ) (b b' : Book) (r : Looked) (out' : List ℕ) → sought a i b ≡ sought a i b' → LookedUp a i out b' r out' → LookedUp a i out b r out'
unfolding looked_of output_of look_up_number
looked_same a i out b b' r out' e p = record { returned = rw e p.returned; output = rw e p.output }

-- its secret is put to the output, or not
module _ (a : ℕ) (i out : List ℕ) (b : Book) (r : Row) (out' : List ℕ) (good : bad_name a i ≡ false)
    (found : sought a i b ≡ some (session_of a r)) (puts : out' ≡ put_list out r.secret) where
  looked_10 : (e : Reason) → number_for e ≡ put_number out r.secret → LookedUp a i out b (looked_in (Err e)) out'
  unfolding looked_of output_of session_of
  looked_10 e put =
      by_test (leb (length r.secret) (length out))
      (λ y. absurd (reason_some e (put ∙ (rw y))))
      (λ y.
      let ref = bare_row e 10 (put ∙ (rw y)) refl in
      let num = look_10 a i out b (session_of a r) good found (leb-false (length r.secret) (length out) y) in
      record { returned = rw (← num, ref); output = puts ∙ (rw (y, ← num)) })

  looked_0 : (w : Weighed) → w ≡ weighed (session_of a r) → 0 ≡ put_number out r.secret → LookedUp a i out b (looked_in (Ok (std.Some w))) out'
  unfolding looked_of output_of session_of
  looked_0 w is put =
      by_test (leb (length r.secret) (length out))
      (λ y.
      let num = look_0 a i out b (session_of a r) good found (leb-true (length r.secret) (length out) y) in
      record { returned = rw (← num, is, found); output = rw (← num, found) puts })
      (λ y. let ten : ◌≡◌ {A = ℕ} 0 10 = put ∙ (rw y) in absurd (omega arith))

looked_11 : (a : ℕ) (i out : List ℕ) (f : Refusal) → bad_name a i ≡ true → f ≡ refusal_of 11 → (b : Book) → LookedUp a i out b (record { refusal = f; found = 0; ems = 0; suite = 0 }) out
unfolding looked_of output_of
looked_11 a i out f h e b = record { returned = rw (← look_11 a i out b h, e); output = rw (← look_11 a i out b h) }

looked_none : (a : ℕ) (i out : List ℕ) (f : Refusal) (b : Book) → bad_name a i ≡ false → sought a i b ≡ none → f ≡ refusal_of 0
    → LookedUp a i out b (record { refusal = f; found = 0; ems = 0; suite = 0 }) out
unfolding looked_of output_of
looked_none a i out f b good z e = record { returned = rw (← look_none a i out b good z, z, e); output = rw (← look_none a i out b good z, z) }

nothing_written : (a : ℕ) (i out : List ℕ) (b : Book) (r : Looked) (out' : List ℕ) → LookedUp a i out b r out' → (r.refusal.number ≡ 0 → ⊥) → out' ≡ out
unfolding looked_of output_of
nothing_written a i out b r out' p w =
    let n = look_up_number a i out b in
    let z : n ≡ 0 → ⊥ = λ e. w (rw (p.returned, row_number n) e) in
    p.output ∙ (rw (ne_eqb n 0 z))

module _ (t : Table) (a : ℕ) (i out : List ℕ) where
  pub looks_name : bad_name a i ≡ true → LooksUp t a i out (looked_in (Err Name)) out
  unfolding refusal_of
  looks_name h =
      record {
        book = empty;
        of_book = looked_11 a i out (refusal_of 11) h refl empty;
        refused = λ w. refl;
        answers = λ b k. looked_11 a i out (refusal_of 11) h refl b;
      }

  module _ (good : bad_name a i ≡ false) where
    looks_up : (r : Looked) (out' : List ℕ) → LookedUp a i out (queue_of t a) r out' → LooksUp t a i out r out'
    looks_up r out' p =
        record {
          book = queue_of t a;
          of_book = p;
          refused = nothing_written a i out (queue_of t a) r out' p;
          answers = λ b k. looked_same a i out b (queue_of t a) r out' (seen t a i b good k) p;
        }

    pub looks_none : none ≡ sought a i (queue_of t a) → LooksUp t a i out (looked_in (Ok std.None)) out
    looks_none is = looks_up (looked_in (Ok std.None)) out (looked_none a i out (refusal_of 0) (queue_of t a) good (sym is) refl)

    module _ (r : Row) (out' : List ℕ) (is : some (session_of a r) ≡ sought a i (queue_of t a)) (puts : out' ≡ put_list out r.secret) where
      pub looks_short : (e : Reason) → number_for e ≡ put_number out r.secret → LooksUp t a i out (looked_in (Err e)) out'
      looks_short e put = looks_up (looked_in (Err e)) out' (looked_10 a i out (queue_of t a) r out' good (sym is) puts e put)

      pub looks_found : (w : Weighed) → w ≡ weighed (session_of a r) → 0 ≡ put_number out r.secret → LooksUp t a i out (looked_in (Ok (std.Some w))) out'
      looks_found w q put = looks_up (looked_in (Ok (std.Some w))) out' (looked_0 a i out (queue_of t a) r out' good (sym is) puts w q put)

-- ---- withdrawal

module _ (t : Table) (a : ℕ) (i : List ℕ) where
  pub withdraws_name : bad_name a i ≡ true → Withdraws t a i (withdrawn_in (Err Name) t)
  unfolding withdrawn_of after refusal_of
  withdraws_name h =
      let n = withdraw_11 a i h in
      record {
        refusal = ap refusal_of n;
        book = empty;
        of_book = rw (← n);
        refused = λ w. refl;
        answers = λ b k. rw (← n);
        keeps = λ b k. rw (← n) k;
      }

  module _ (own : ℕ) (d : Queue) (g : Named a i own) where
    here : (b : Book) → Keeps t b → sessions_of a (get_or t.queues own d) ≡ part_of a b
    here b k = rw (← g.is) (sessions_at t b k.table own d g.six)

    -- the queues qs that are left, and whether one was there
    withdraws_left : (w : Bool) (qs : List Queue) → there (sought a i (sessions_of a (get_or t.queues own d))) ≡ w
        → ((b : Book) → Keeps t b → qs ≡ six (λ c. laid (part_of c (strike (is_named a i) b))))
        → Withdraws t a i (withdrawn_in (Ok w) (record { queues = qs }))
    unfolding withdrawn_of after table_of
    withdraws_left w qs was left =
        let n = withdraw_0 a i g.good in
        record {
          refusal = ap refusal_of n;
          book = sessions_of a (get_or t.queues own d);
          of_book = rw (← n, was);
          refused = λ v. absurd (v (row_number 0));
          answers = λ b k.
              let same : sought a i (sessions_of a (get_or t.queues own d)) ≡ sought a i b = ap (sought a i) (here b k) ∙ part_sought a i b in
              rw (← n) (ap bit (sym was ∙ ap there same));
          keeps = λ b k. record { table = rw (← n, left b k); sound = sound_after b (withdraw a i) k.sound };
        }

    module _ (at : ℕ) (found : at ≡ place (is_named a i) (sessions_of a (get_or t.queues own d))) where
      -- what goes out of each axle's part
      goes_out : (b : Book) → Keeps t b
          → (c : ℕ) → part_of c (strike (is_named a i) b) ≡ pick (eqb c (suc own)) (cut at (part_of c b)) (part_of c b)
      goes_out b k =
          let p = is_named a i in
          let struck-out : cut at (part_of (suc own) b) ≡ strike p (part_of (suc own) b) = rw (g.is, found, here b k) (place_strike p (part_of a b)) in
          let own_name : (s : Session) → p s ≡ true → is_of (suc own) s ≡ true = rw g.is (named_of a i) in
          part_goes b (suc own) at p own_name struck-out

      pub withdraws_done : at < length (sessions_of a (get_or t.queues own d)) → (less : Queue)
          → ((b : Book) → get_or t.queues own d ≡ laid b → length b ≤ 8 → less ≡ laid (cut at b))
          → Withdraws t a i (withdrawn_in (Ok true) (record { queues = set t.queues own less }))
      withdraws_done h less gone =
          let b' = sessions_of a (get_or t.queues own d) in
          withdraws_left true (set t.queues own less)
          (ap there (place_oldest (is_named a i) (session_of a no_row) b' (omega (arith, found, h))))
          (λ b k.
          let eight : length (part_of (suc own) b) ≤ 8 = rw (part_length (suc own) b) (k.sound.eight (suc own)) in
          queues_less t b (strike (is_named a i) b) own at less k.table g.six (goes_out b k) (gone (part_of (suc own) b) (laid_at t b k.table own d g.six) eight))

    pub withdraws_none : length (sessions_of a (get_or t.queues own d)) ≤ place (is_named a i) (sessions_of a (get_or t.queues own d)) → Withdraws t a i (withdrawn_in (Ok false) t)
    withdraws_none h =
        let p = is_named a i in
        let b' = sessions_of a (get_or t.queues own d) in
        withdraws_left false t.queues (ap there (place_none p b' h))
        (λ b k.
        queues_same t b (strike p b) k.table
        (λ c.
        goes_out (place p b') refl b k c
        ∙ by_test (eqb c (suc own))
        (λ y.
        let past : length (part_of c b) ≤ place p b' = rw (eqb-true c (suc own) y, g.is, ← here b k) h in
        rw y (cut_past (place p b') (part_of c b) past))
        (λ n. rw n)))

-- ---- number held

-- so many of an axle
holds_replicate : (a k : ℕ) (s : Session) → is_of a s ≡ true → holds a (replicate k s) ≡ k
unfolding many
holds_replicate a zero s e = refl
holds_replicate a (suc k) s e = rw (e, holds_replicate a k s e) (omega arith)

module _ (t : Table) (a : ℕ) (f : Refusal) where
  pub counts_name : bad_axle a ≡ true → f ≡ refusal_for Name → CountsHeld t a (record { refusal = f; count = 0 })
  unfolding held_of refusal_of
  counts_name h e = record { book = empty; of_book = rw (← held_11 a h, e); answers = λ b k. rw (← held_11 a h, e) }

  pub counts_done : (k own : ℕ) → Placed a own → f ≡ refusal_of 0 → (held_in t a ≤ 8 → k ≡ held_in t a) → CountsHeld t a (record { refusal = f; count = k })
  unfolding held_of
  counts_done k own g e p =
      let s : Session = record { axle = a; identifier = []; ems = false; suite = 0; secret = [] } in
      record {
        book = replicate k s;
        of_book = rw (← held_0 a g.good, e, holds_replicate a k s (of_axle a s refl));
        answers = λ b w.
            let r = good_axle a g.good in
            let q = queue_held t b w.table a r.0 r.1 in
            let k' : k ≡ holds a b = p (rw q (w.sound.eight a)) ∙ q in
            rw (← held_0 a g.good, e, k');
      }

-- ---- what is known

-- a name that no store takes is in no book
unnamed : (a : ℕ) (i : List ℕ) (b : Book) → Each Formed b → bad_name a i ≡ true → sought a i b ≡ none
unfolding oldest
unnamed a i [] f h = refl
unnamed a i (s ∷ b) f h =
    ⊎_elim
    (λ (y : is_named a i s ≡ true).
    let m = named_name a i s y in
    let ax = name_axle a i s.axle s.identifier m in
    let id = name_identifier a i s.axle s.identifier m in
    let g : bad_name a i ≡ false = rw (← ax, ← id) (sym (name_good s.axle s.identifier (sym (axle_good s.axle f.0.axle_from f.0.axle_to)) f.0.identifier_from f.0.identifier_to)) in
    not_both h g)
    (λ (n : is_named a i s ≡ false). rw n (unnamed a i b f.1 h))
    (which (is_named a i s))

module _ (t : Table) (a : ℕ) (i : List ℕ) where
  pub knows_name : bad_name a i ≡ true → Knows t a i std.None
  unfolding oldest
  knows_name h = record { book = empty; of_book = refl; answers = λ b k. rw (unnamed a i b k.sound.formed h) }

  module _ (good : bad_name a i ≡ false) where
    pub knows_none : none ≡ sought a i (queue_of t a) → Knows t a i std.None
    knows_none is = record { book = queue_of t a; of_book = rw (← is); answers = λ b k. rw (seen t a i b good k, ← is) }

    pub knows_found : (r : Row) (w : Weighed) → some (session_of a r) ≡ sought a i (queue_of t a) → w ≡ weighed (session_of a r) → Knows t a i (std.Some w)
    knows_found r w is q = record { book = queue_of t a; of_book = rw (← is, q); answers = λ b k. rw (seen t a i b good k, ← is, q) }
