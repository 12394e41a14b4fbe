-- Six queues: one of them read or set, and the table that keeps a book, read.
-- Assumes nothing.
use mathlib.Core.Path.{◌≡◌, refl, ◌∙◌, ap}
use mathlib.Core.List.{List, [], ◌∷◌}
use Prim.Native.Nat.{ℕ, zero, suc, ◌-◌, ◌≤◌, ◌<◌}
use native.Mathlib.Omega.{arith}
use lib.Dec.{eqb}
use lib.ListN.{length, take, get_or, set}
use Rattle.std.specs.List.{sum_by}
use Rattle.seqs.specs.Pick.{pick}
use Rattle.sessions.specs.Book.{Book, holds}
use Rattle.sessions.specs.Keeps.{Formed, Each, part_of, laid, six, table_of, sessions_of, queue_at, queue_of, held_in}
use Rattle.sessions.specs.declared.queue.Queue.{Queue}
use Rattle.sessions.specs.declared.table.Table.{Table}
use Rattle.sessions.proofs.Laid.{sessions_laid, laid_held}
use Rattle.sessions.proofs.Parts.{part_length, part_axle, part_six}

module _ {A : Type 0} where
  pub six_at : (f : ℕ → A) (n : ℕ) (d : A) → n < 6 → get_or (six f) n d ≡ f (suc n)
  six_at f zero d h = refl
  six_at f (suc zero) d h = refl
  six_at f (suc (suc zero)) d h = refl
  six_at f (suc (suc (suc zero))) d h = refl
  six_at f (suc (suc (suc (suc zero)))) d h = refl
  six_at f (suc (suc (suc (suc (suc zero))))) d h = refl
  six_at f (suc (suc (suc (suc (suc (suc n)))))) d h = absurd (omega arith)

  pub six_set : (f : ℕ → A) (n : ℕ) (x : A) → n < 6 → set (six f) n x ≡ six (λ c. pick (eqb c (suc n)) x (f c))
  six_set f zero x h = refl
  six_set f (suc zero) x h = refl
  six_set f (suc (suc zero)) x h = refl
  six_set f (suc (suc (suc zero))) x h = refl
  six_set f (suc (suc (suc (suc zero)))) x h = refl
  six_set f (suc (suc (suc (suc (suc zero))))) x h = refl
  six_set f (suc (suc (suc (suc (suc (suc n)))))) x h = absurd (omega arith)

  pub six_same : (f g : ℕ → A) → ((c : ℕ) → f c ≡ g c) → six f ≡ six g
  six_same f g e = rw (e 1, e 2, e 3, e 4, e 5, e 6)

-- what stands past the end of an array of queues
abbrev pub no_queue : Queue
no_queue = record { rows = []; held = 0 }

at_any : (l : List Queue) (i : ℕ) (d e : Queue) → i < length l → get_or l i d ≡ get_or l i e
at_any [] i d e h = absurd (omega arith)
at_any (x ∷ l) zero d e h = refl
at_any (x ∷ l) (suc i) d e h = at_any l i d e (omega arith)

-- the queue of an axle, as an array is read
module _ (t : Table) (a n : ℕ) (l : length t.queues ≡ 6) (h : n < 6) (e : a ≡ suc n) where
  pub queue_read : get_or t.queues n no_queue ≡ queue_at t a
  unfolding queue_at
  queue_read =
      let m : n ≡ a - 1 = omega arith in
      ap (λ (x : ℕ). get_or t.queues x no_queue) m ∙ at_any t.queues (a - 1) no_queue (laid []) (omega arith)

-- and its sessions and its number held, by the queue's own value
module _ (t : Table) (a own : ℕ) (is : suc own ≡ a) (q : Queue) (e : q ≡ queue_at t (suc own)) where
  pub sessions_own : sessions_of a q ≡ queue_of t a
  unfolding queue_of
  sessions_own = ap (sessions_of a) (e ∙ ap (queue_at t) is)

  pub held_own : q.held ≡ held_in t a
  unfolding held_in
  held_own = ap (λ (x : Queue). x.held) (e ∙ ap (queue_at t) is)

-- ---- the queue of an axle

module _ (t : Table) (b : Book) (e : t ≡ table_of b) where
  pub queues_are : t.queues ≡ six (λ a. laid (part_of a b))
  unfolding table_of
  queues_are = ap (λ (x : Table). x.queues) e

  -- by its place
  pub laid_at : (n : ℕ) (d : Queue) → n < 6 → get_or t.queues n d ≡ laid (part_of (suc n) b)
  laid_at n d h = rw queues_are (six_at (λ a. laid (part_of a b)) n d h)

  pub sessions_at : (n : ℕ) (d : Queue) → n < 6 → sessions_of (suc n) (get_or t.queues n d) ≡ part_of (suc n) b
  sessions_at n d h = rw (laid_at n d h) (sessions_laid (suc n) (part_of (suc n) b) (part_axle (suc n) b))

  pub held_at : (n : ℕ) (d : Queue) → n < 6 → (get_or t.queues n d).held ≡ holds (suc n) b
  unfolding laid
  held_at n d h = rw (laid_at n d h) (part_length (suc n) b)

  -- all together
  pub total_is : Each Formed b → sum_by (λ (q : Queue). length (take q.held q.rows)) t.queues ≡ length b
  total_is f =
      rw queues_are
      (rw (laid_held (part_of 1 b), laid_held (part_of 2 b), laid_held (part_of 3 b), laid_held (part_of 4 b), laid_held (part_of 5 b), laid_held (part_of 6 b))
      (omega (arith, part_six b f)))

  module _ (a : ℕ) (from : 1 ≤ a) (to : a ≤ 6) where
    pub queue_is : queue_at t a ≡ laid (part_of a b)
    unfolding queue_at
    queue_is =
        let n : suc (a - 1) ≡ a = omega arith in
        laid_at (a - 1) (laid []) (omega arith) ∙ ap (λ (x : ℕ). laid (part_of x b)) n

    pub queue_sessions : queue_of t a ≡ part_of a b
    unfolding queue_of
    queue_sessions = rw queue_is (sessions_laid a (part_of a b) (part_axle a b))

    pub queue_held : held_in t a ≡ holds a b
    unfolding held_in laid
    queue_held = ap (λ (q : Queue). q.held) queue_is ∙ part_length a b
