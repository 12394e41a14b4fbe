-- Every list of calls has a run, as specs/Demand3.antt states: for each sound book there is the table that keeps it, and a step for each
-- call.
-- Assumes nothing.
use mathlib.Core.Path.{◌≡◌, refl, sym, ◌∙◌, ap₂}
use mathlib.Core.Bool.{true, false}
use mathlib.Core.List.{List, [], ◌∷◌}
use mathlib.Core.Logic.{⊎_elim}
use Prim.Native.Nat.{ℕ}
use lib.Dec.{eqb}
use borrow.Author.Tests.{ne_eqb}
use Rattle.seqs.specs.Pick.{pick}
use Rattle.seqs.specs.Cases.{which}
use Rattle.refusal.specs.Table.{refusal_of}
use Rattle.refusal.specs.Listed.{row_number}
use Rattle.sessions.specs.Book.{Session, Book, empty, sought, store_number, look_up_number, withdraw_number, Call, store, look_up, withdraw, held, clear, after}
use Rattle.sessions.specs.History.{Event}
use Rattle.sessions.specs.Keeps.{table_of, Keeps}
use Rattle.sessions.specs.Promises.{Stores, looked_of, output_of, LooksUp, withdrawn_of, Withdraws, held_of, CountsHeld, Clears}
use Rattle.sessions.specs.Demand3.{Step, storing, looking, withdrawing, counting, clearing, done, next, Ran, Total}
use Rattle.sessions.specs.declared.table.Table.{Table}
use Rattle.sessions.proofs.Alike.{Alike, alike_sought, alike_holds, alike_after, alike_table, keeps_table, kept_alike}
use Rattle.sessions.proofs.Sound.{sound_after, sound_empty}

-- ---- a step for every call

pub record Answered (t : Table) (b : Book) (c : Call) : Type 0 where
  pub event : Event
  pub left : Table
  pub call : event.call ≡ c
  pub step : Step t event left
  pub keeps : Keeps left (after b c)

abbrev next_table : ℕ → Table → Book → Table
next_table n t b = pick (eqb n 0) (table_of b) t

next_kept : (n : ℕ) (t : Table) (b : Book) → ((refusal_of n).number ≡ 0 → ⊥) → next_table n t b ≡ t
next_kept n t b h = rw (ne_eqb n 0 (λ z. h (row_number n ∙ z)))

module _ (t : Table) (b : Book) (k : Keeps t b) where
  new_keeps : (c : Call) → Keeps (table_of (after b c)) (after b c)
  new_keeps c = keeps_table (after b c) (sound_after b c k.sound)

  store_keeps : (s : Session) → Keeps (next_table (store_number s) t (after b (store s))) (after b (store s))
  unfolding after
  store_keeps s =
      ⊎_elim
      (λ (y : eqb (store_number s) 0 ≡ true). rw y (rw y at (new_keeps (store s))))
      (λ (n : eqb (store_number s) 0 ≡ false). rw n k)
      (which (eqb (store_number s) 0))

  withdraw_keeps : (a : ℕ) (i : List ℕ) → Keeps (next_table (withdraw_number a i) t (after b (withdraw a i))) (after b (withdraw a i))
  unfolding after
  withdraw_keeps a i =
      ⊎_elim
      (λ (y : eqb (withdraw_number a i) 0 ≡ true). rw y (rw y at (new_keeps (withdraw a i))))
      (λ (n : eqb (withdraw_number a i) 0 ≡ false). rw n k)
      (which (eqb (withdraw_number a i) 0))

  -- any other book that the table keeps is alike
  module _ (b' : Book) (k' : Keeps t b') where
    other : Alike b b'
    other = kept_alike t b b' k k'

    same_sought : (a : ℕ) (i : List ℕ) → sought a i b' ≡ sought a i b
    same_sought a i = sym (alike_sought b b' other a i)

    same_keeps : (t' : Table) (c : Call) → Keeps t' (after b c) → Keeps t' (after b' c)
    same_keeps t' c w =
        record {
          table = w.table ∙ alike_table (after b c) (after b' c) (alike_after b b' c other k.sound k'.sound);
          sound = sound_after b' c k'.sound;
        }

  stores : (s : Session) → Stores t s (record { refusal = refusal_of (store_number s); table = next_table (store_number s) t (after b (store s)) })
  stores s =
      record {
        refusal = refl;
        refused = λ h. next_kept (store_number s) t (after b (store s)) h;
        keeps = λ b' k'. same_keeps b' k' (next_table (store_number s) t (after b (store s))) (store s) (store_keeps s);
      }

  looks : (a : ℕ) (i out : List ℕ) → LooksUp t a i out (looked_of a i out b) (output_of a i out b)
  unfolding looked_of output_of look_up_number
  looks a i out =
      record {
        book = b;
        of_book = record { returned = refl; output = refl };
        refused = λ h. rw (ne_eqb (look_up_number a i out b) 0 (λ z. h (row_number (look_up_number a i out b) ∙ z)));
        answers = λ b' k'. record { returned = rw (same_sought b' k' a i); output = rw (same_sought b' k' a i) };
      }

  withdraws : (a : ℕ) (i : List ℕ) → Withdraws t a i (record { refusal = refusal_of (withdraw_number a i); withdrawn = withdrawn_of a i b; table = next_table (withdraw_number a i) t (after b (withdraw a i)) })
  unfolding withdrawn_of
  withdraws a i =
      record {
        refusal = refl;
        book = b;
        of_book = refl;
        refused = λ h. next_kept (withdraw_number a i) t (after b (withdraw a i)) h;
        answers = λ b' k'. rw (same_sought b' k' a i);
        keeps = λ b' k'. same_keeps b' k' (next_table (withdraw_number a i) t (after b (withdraw a i))) (withdraw a i) (withdraw_keeps a i);
      }

  counts : (a : ℕ) → CountsHeld t a (held_of a b)
  unfolding held_of
  counts a = record { book = b; of_book = refl; answers = λ b' k'. rw (alike_holds b b' (other b' k') a) }

  clears : Clears t (record { refusal = refusal_of 0; table = table_of empty })
  clears = record { refusal = refl; keeps = keeps_table empty sound_empty }

  answered : (c : Call) → Answered t b c
  unfolding after
  answered (store s) = record { event = _; left = _; call = refl; step = storing (stores s); keeps = store_keeps s }
  answered (look_up a i out) = record { event = _; left = _; call = refl; step = looking (looks a i out); keeps = k }
  answered (withdraw a i) = record { event = _; left = _; call = refl; step = withdrawing (withdraws a i); keeps = withdraw_keeps a i }
  answered (held a) = record { event = _; left = _; call = refl; step = counting (counts a); keeps = k }
  answered clear = record { event = _; left = _; call = refl; step = clearing clears; keeps = clears.keeps }

-- ---- a run for every list

runs : (t : Table) (b : Book) → Keeps t b → (cs : List Call) → Ran t cs
runs t b k [] = record { history = []; left = t; calls = refl; run = done }
runs t b k (c ∷ cs) =
    let a = answered t b k c in
    let r = runs a.left (after b c) a.keeps cs in
    record {
      history = a.event ∷ r.history;
      left = r.left;
      calls = ap₂ {C = List Call} (λ x y. x ∷ y) a.call r.calls;
      run = next a.step r.run;
    }

pub total : Total
total t cs s = runs t empty s.keeps cs
