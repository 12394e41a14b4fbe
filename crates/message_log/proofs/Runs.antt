-- Order 6's law. Each call hands back a log that stands for the history that the definitions give it; and where both Finished are taken,
-- each side's value came with one that was checked.
-- Assumes nothing.
use mathlib.Core.Path.{◌≡◌, refl, sym, ◌∙◌, subst}
use mathlib.Core.Bool.{Bool, true, false, not, ◌&&◌, ◌||◌, false≢true}
use mathlib.Core.List.{List, ◌++◌}
use Prim.Native.Nat.{ℕ}
use lib.Dec.{eqb}
use lib.ListN.{length}
use borrow.Author.Tests.{eq-eqb, ne_eqb, eqb-true, not-true, not-false}
use Rattle.seqs.specs.Pick.{pick}
use Rattle.seqs.specs.Cases.{and_left, and_right}
use Rattle.message.specs.Frame.{kind_of, body_of}
use Rattle.message_log.specs.Order.{turns, look, is_due}
use Rattle.message_log.specs.History.{Beside, History, Side, tells, place_of, from_server, is_from, resumed, complete, verify_data_of}
use Rattle.message_log.specs.History.History.{fresh, accepted}
use Rattle.message_log.specs.History.Beside.{told, under}
use Rattle.message_log.specs.History.Side.{client, server}
use Rattle.message_log.specs.Standing.{Standing, Part, history_of, left_of}
use Rattle.message_log.specs.Standing.Standing.{whole, parted}
use Rattle.message_log.specs.Calls.{out_of_turn, in_order}
use Rattle.message_log.specs.Finish.{Compared}
use Rattle.message_log.specs.Stands.{Stands, number}
use Rattle.message_log.specs.Runs.{Call, after, standing_from, Step, Run, Came, Theorem}
use Rattle.message_log.specs.Runs.Step.{accepting, finishing, feeding}
use Rattle.message_log.specs.Runs.Run.{done, next}
use Rattle.message_log.specs.Runs.From.{here, later}
use Rattle.message_log.specs.Orders.{Begins, types_of, OrderedRuns}
use Rattle.message_log.specs.declared.state.Log.{Log}
use Rattle.message_log.proofs.Turns.{passes, client_at, server_at, server_due_at, turned}
use Rattle.message_log.proofs.Histories.{ordered}
use Rattle.message_log.proofs.Calling.{both_calls}
use Rattle.message_log.proofs.Places.{from_server_by, complete_by}

-- is a side's Finished taken?
took_from : Side → History → Bool
took_from side fresh = false
took_from side (accepted h m b) = pick (eqb (kind_of m) 20 && is_from side h) true (took_from side h)

further : (side : Side) (h : History) (m : List ℕ) (b : Beside) (v : List ℕ) → Came side h v → Came side (accepted h m b) v
further side h m b v c =
    record {
      before = c.before;
      message = c.message;
      secret = c.secret;
      from = later c.from;
      own = c.own;
      checked = c.checked;
      carried = c.carried;
    }

-- its value is that of a Finished that was checked
came_by : (side : Side) (h : History) → Compared h → took_from side h ≡ true → Came side h (verify_data_of side h)
unfolding took_from verify_data_of Compared
came_by side fresh c t = absurd (false≢true t)
came_by side (accepted h m (told tell)) c t =
    go (eqb (kind_of m) 20) (ne_eqb (kind_of m) 20 c.0) t (came_by side h c.1)
  where
    go : (z : Bool) → z ≡ false → pick (z && is_from side h) true (took_from side h) ≡ true → (took_from side h ≡ true → Came side h (verify_data_of side h))
        → Came side (accepted h m (told tell)) (pick (z && is_from side h) (body_of m) (verify_data_of side h))
    go true e t f = absurd (false≢true (sym e))
    go false e t f = further side h m (told tell) _ (f t)
came_by side (accepted h m (under secret)) c t =
    go (eqb (kind_of m) 20) (eq-eqb (kind_of m) 20 c.0.kind) (is_from side h) refl t (came_by side h c.1)
  where
    go : (z : Bool) → z ≡ true → (o : Bool) → is_from side h ≡ o → pick (z && o) true (took_from side h) ≡ true
        → (took_from side h ≡ true → Came side h (verify_data_of side h))
        → Came side (accepted h m (under secret)) (pick (z && o) (body_of m) (verify_data_of side h))
    go false e o p t f = absurd (false≢true e)
    go true e true p t f =
        record { before = h; message = m; secret = secret; from = here; own = p; checked = c.0; carried = refl }
    go true e false p t f = further side h m (under secret) _ (f t)

-- which sides' are taken, by the number of the place
record Took (n : ℕ) (h : History) : Type 0 where
  client : took_from client h ≡ client_at n
  server : took_from server h ≡ server_at n

took : (h : History) → in_order h ≡ true → Took (number (place_of h)) h
unfolding place_of in_order out_of_turn took_from is_from number
took fresh o = record { client = refl; server = refl }
took (accepted h m b) o =
    by_test (eqb (kind_of m) 0) refl (not-true _ (and_left (not (out_of_turn h m (tells b))) (in_order h) o))
    (from_server_by (number (place_of h)) h (record { number = refl; order = before })) (took h before)
  where
    before : in_order h ≡ true
    before = and_right (not (out_of_turn h m (tells b))) (in_order h) o

    by_test : (z : Bool) → eqb (kind_of m) 0 ≡ z → (not z && not (is_due (kind_of m) (turns (tells b).resumes (place_of h)))) ≡ false
        → server_due_at (number (place_of h)) ≡ from_server h
        → Took (number (place_of h)) h
        → Took (number (pick z (place_of h) (look (kind_of m) (turns (tells b).resumes (place_of h))))) (accepted h m b)
    by_test true e f w s =
        let k = eqb-true (kind_of m) 0 e in
        record { client = rw k s.client; server = rw k s.server }
    by_test false e f w s =
        let t = turned (tells b).resumes (place_of h) (kind_of m) (not-false _ f) in
        record { client = rw (← w, s.client) (sym t.client); server = rw (← w, s.server) (sym t.server) }

-- where both are taken, each is
both : (side : Side) (h : History) → in_order h ≡ true → complete h ≡ true → took_from side h ≡ true
unfolding number passes
both side h o c = by_side side
  where
    ended : (eqb (number (place_of h)) 13 || eqb (number (place_of h)) 16) ≡ true
    ended = complete_by (number (place_of h)) h (record { number = refl; order = o }) ∙ c

    or_more : (a x : Bool) → x ≡ true → (a || x) ≡ true
    or_more true x e = refl
    or_more false x e = e

    by_side : (side : Side) → took_from side h ≡ true
    by_side client = (took h o).client ∙ or_more (eqb (number (place_of h)) 12) (eqb (number (place_of h)) 13 || eqb (number (place_of h)) 16) ended
    by_side server = (took h o).server ∙ or_more (eqb (number (place_of h)) 15) (eqb (number (place_of h)) 13 || eqb (number (place_of h)) 16) ended

-- each call hands back a log that stands for what the definitions say
pub step_stands : (log log' : Log) (s : Standing) (c : Call) → Stands log s → Step log c log' → Stands log' (after s c)
unfolding after
step_stands log log' s c st (accepting a) = a.stands s st
step_stands log log' s c st (finishing f) = f.stands s st
step_stands log log' s c st (feeding f) = f.stands s st

run_stands : (log log' : Log) (s : Standing) (cs : List Call) → Stands log s → Run log cs log' → Stands log' (standing_from s cs)
unfolding standing_from
run_stands log log' s cs st done = st
run_stands log log' s cs st (next {c = c} t r) = run_stands _ log' (after s c) _ (step_stands log _ s c st t) r

pub law : Theorem
law log log' cs f r =
    let s = standing_from (whole fresh) cs in
    let st = run_stands log log' (whole fresh) cs f r in
    record {
      stands = st;
      compared = st.compared;
      came = λ c side. came_by side (history_of s) st.compared (both side (history_of s) st.place.order c);
    }

pub ordered_runs : OrderedRuns
ordered_runs log log' cs f r =
    let s = standing_from (whole fresh) cs in
    let st : Stands log' s = (law log log' cs f r).stands in
    let o : in_order (history_of s) ≡ true = st.place.order in
    record {
      begins = (ordered (history_of s)).begins o;
      every = (ordered (history_of s)).every o;
      only = (ordered (history_of s)).only o;
      calls = λ _. both_calls (history_of s) o;
      parted = parted_on log' s st;
    }
  where
    -- what has begun is accepted when it is whole, and so leads on along an order
    parted_on : (log : Log) (s : Standing) → Stands log s → (p : Part) → s ≡ parted (history_of s) p → (rest : List ℕ) → length rest ≡ left_of p
        → Begins (resumed (accepted (history_of s) (p.got ++ rest) (told p.tell))) (types_of (accepted (history_of s) (p.got ++ rest) (told p.tell)))
    parted_on log s st p e rest n =
        let t : Stands log (parted (history_of s) p) = subst (Stands log) e st in
        ((both_calls (history_of s) st.place.order).accepts_only (p.got ++ rest) p.tell (t.part.judged rest n)).1
