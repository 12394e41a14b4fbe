-- A log's number for a place says of the history what its own words say.
-- Assumes nothing.
use mathlib.Core.Path.{◌≡◌, refl, sym}
use mathlib.Core.Bool.{Bool, true, false, not, ◌&&◌, ◌||◌}
use Prim.Native.Nat.{ℕ}
use lib.Dec.{eqb}
use borrow.Author.Tests.{eqb-true, not-true, not-false}
use Rattle.seqs.specs.Pick.{pick}
use Rattle.seqs.specs.Cases.{and_left, and_right}
use Rattle.message.specs.Frame.{kind_of}
use Rattle.message_log.specs.Order.{turns, look, is_due}
use Rattle.message_log.specs.History.{History, tells, place_of, exchanged, resumed, finished_taken, complete, from_server}
use Rattle.message_log.specs.History.History.{fresh, accepted}
use Rattle.message_log.specs.Calls.{out_of_turn, in_order}
use Rattle.message_log.specs.Stands.{number, Placed}
use Rattle.message_log.proofs.Turns.{passes, each_place, alike, alike_same, exchanged_at, resumed_at, taken_at, turned}

pub record Says (n : ℕ) (h : History) : Type 0 where
  pub exchanged : exchanged h ≡ exchanged_at n
  pub resumed : resumed h ≡ resumed_at n
  pub taken : finished_taken h ≡ taken_at n

says : (h : History) → in_order h ≡ true → Says (number (place_of h)) h
unfolding place_of in_order out_of_turn exchanged resumed finished_taken number
says fresh o = record { exchanged = refl; resumed = refl; taken = refl }
says (accepted h m b) o =
    by_test (eqb (kind_of m) 0) refl (not-true _ (and_left (not (out_of_turn h m (tells b))) (in_order h) o)) (says h (and_right (not (out_of_turn h m (tells b))) (in_order h) o))
  where
    by_test : (z : Bool) → eqb (kind_of m) 0 ≡ z → (not z && not (is_due (kind_of m) (turns (tells b).resumes (place_of h)))) ≡ false
        → Says (number (place_of h)) h
        → Says (number (pick z (place_of h) (look (kind_of m) (turns (tells b).resumes (place_of h))))) (accepted h m b)
    by_test true e f s =
        let k = eqb-true (kind_of m) 0 e in
        record { exchanged = rw k s.exchanged; resumed = rw k s.resumed; taken = rw k s.taken }
    by_test false e f s =
        let t = turned (tells b).resumes (place_of h) (kind_of m) (not-false _ f) in
        record {
          exchanged = rw s.exchanged (sym t.exchanged);
          resumed = rw s.resumed (sym t.resumed);
          taken = rw s.taken (sym t.taken);
        }

module _ (n : ℕ) (h : History) (s : Placed n h) where
  pub placed_says : Says n h
  placed_says = rw s.number (says h s.order)

  -- the two numbers at which the next Finished is the server's
  pub from_server_by : (eqb n 12 || eqb n 14) ≡ from_server h
  unfolding from_server number passes alike
  from_server_by =
      rw (placed_says.taken, placed_says.resumed, s.number)
      (alike_same _ _ (each_place (λ p. alike (eqb (number p) 12 || eqb (number p) 14) (eqb (taken_at (number p)) (pick (resumed_at (number p)) 0 1))) refl (place_of h)))

  -- the two at which both Finished are taken
  pub complete_by : (eqb n 13 || eqb n 16) ≡ complete h
  unfolding complete number passes alike
  complete_by =
      rw (placed_says.taken, s.number)
      (alike_same _ _ (each_place (λ p. alike (eqb (number p) 13 || eqb (number p) 16) (eqb (taken_at (number p)) 2)) refl (place_of h)))
