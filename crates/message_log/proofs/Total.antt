-- Every list of calls has a run, as specs/Runs.antt states: to each call on a log that stands for a history there is an answer that meets
-- its contract.
-- Assumes nothing.
use mathlib.Core.Path.{◌≡◌, refl, sym, ◌∙◌, ap, ap₂}
use mathlib.Core.Bool.{Bool, true, false, not, ◌&&◌, false≢true}
use mathlib.Core.List.{List, [], ◌∷◌, ◌++◌}
use Rattle.std.proofs.Common.{Option, Some, None, Result, Ok, Err}
use Prim.Native.Nat.{ℕ, ◌-◌, ◌≤◌}
use native.Mathlib.Omega.{arith}
use lib.Dec.{eqb}
use lib.ListN.{length, take, replicate, length-append, length-replicate}
use lib.Seq.{length-take-le}
use borrow.Author.Tests.{eqb-true, eqb-false, not-true}
use Rattle.seqs.specs.Pick.{pick}
use Rattle.seqs.specs.Cases.{by_test, and_left, and_right}
use Rattle.refusal.specs.Table.{refusal_of, refusal_at}
use Rattle.refusal.specs.First.{first_of}
use Rattle.refusal.specs.Listed.{anywhere}
use Rattle.refusal.specs.Reason.{refusal_for}
use Rattle.refusal.specs.declared.reason.Reason.{Reason}
use Rattle.refusal.specs.declared.reason.Reason.TheVariants.{Malformed, Length}
use Rattle.octets.specs.Same.{same}
use Rattle.message.specs.Frame.{kind_of, body_of, overlong, misstated}
use Rattle.seqs.specs.Flag.{yes}
use Rattle.transcript.specs.Choice.{Choice, algorithm_by, algorithm_of}
use Rattle.transcript.specs.Carries.{Carries, digest_of}
use Rattle.transcript.specs.Allowance.{let_in}
use Rattle.transcript.specs.Laws.{let_in-within, let_in-length}
use Rattle.transcript.proofs.Further.{further, choosing, one_choice, one_digest, same_length}
use Rattle.prf.specs.Secrets.{verify_data}
use Rattle.message_log.specs.Told.{Told}
use Rattle.message_log.specs.Suite.{function_of, in_field}
use Rattle.message_log.specs.Order.{Place, turns, look, finished_due}
use Rattle.message_log.specs.History.{History, place_of, hashed, choice_of, suite_of, from_server}
use Rattle.message_log.specs.History.History.{fresh}
use Rattle.message_log.specs.Standing.{Standing, Part, history_of, between, entered, left_of}
use Rattle.message_log.specs.Standing.Standing.{whole, parted}
use Rattle.message_log.specs.Calls.{misshapen, shape_number, broken_at}
use Rattle.message_log.specs.Finish.{expected_value}
use Rattle.message_log.specs.Feed.{bad_allowance}
use Rattle.message_log.specs.Stands.{Stands, Placed, number, hash_number}
use Rattle.message_log.specs.Places.{DueTo}
use Rattle.message_log.specs.Steps.{Judges, TurnOf, PartTurn, Entered, Asks}
use Rattle.message_log.specs.Promise.{Feeds, blocks_of}
use Rattle.message_log.specs.Runs.{Call, after, Step, Ran, Total}
use Rattle.message_log.specs.Runs.Call.{accept, finish, feed}
use Rattle.message_log.specs.Runs.Step.{accepting, finishing, feeding}
use Rattle.message_log.specs.Runs.Run.{done, next}
use Rattle.message_log.specs.declared.state.Log.{Log}
use Rattle.message_log.specs.declared.state.Turn.{Turn}
use Rattle.message_log.specs.declared.order.Due.{Due}
use Rattle.transcript.specs.declared.Blocks.{Blocks}
use Rattle.message_log.specs.declared.answers.Fed.{Fed}
use Rattle.message_log.proofs.Reasons.{length_at}
use Rattle.message_log.proofs.Turns.{number_most, same_place, turned}
use Rattle.message_log.proofs.Places.{from_server_by}
use Rattle.message_log.proofs.Held.{held_at, held_at_read}
use Rattle.message_log.proofs.Messages.{fine}
use Rattle.message_log.proofs.Heads.{accepted_is}
use Rattle.message_log.proofs.Entered.{entered_part, entered_server, entered_exchange, entered_other}
use Rattle.message_log.proofs.Runs.{step_stands}
use Rattle.message_log.proofs.Accepting.{shape_turn, between_turn, request_turn, finished_turn, out_turn, other_turn, refused_accepts, request_accepts, done_accepts}
use Rattle.message_log.proofs.Finishing.{secret_asks, shape_asks, kind_asks, due_asks, done_asks, takes_server, takes_client, refused_finishes, differs_finishes, equal_finishes}
use Rattle.message_log.proofs.Feeding.{allowance_part, first_part, length_part, next_part, refused_feeds, request_feeds, done_feeds}

-- a message by itself, as the code judges it
reason_of : (m : List ℕ) → Reason
reason_of m = pick (eqb (shape_number m) 10) Length (Malformed (broken_at m))

reasoned : (m : List ℕ) → (shape_number m ≡ 0 → ⊥) → Judges m (Err (reason_of m))
unfolding reason_of shape_number first_of
reasoned m z = record { refusal = go (overlong m) (misstated m) (misshapen m) refl refl refl; kind = tt }
  where
    go : (a b c : Bool) → overlong m ≡ a → misstated m ≡ b → misshapen m ≡ c → refusal_for (reason_of m) ≡ refusal_at (shape_number m) (broken_at m)
    go true b c p q r = rw p (length_at (broken_at m))
    go false true c p q r = rw (p, q)
    go false false true p q r = rw (p, q, r)
    go false false false p q r = absurd (z (rw (p, q, r)))

kinded : (m : List ℕ) → shape_number m ≡ 0 → Judges m (Ok (kind_of m))
kinded m e = record { refusal = anywhere 0 (broken_at m) refl ∙ ap (λ (n : ℕ). refusal_at n (broken_at m)) (sym e); kind = refl }

record Answered (log : Log) (c : Call) : Type 0 where
  left : Log
  step : Step log c left

-- an answer by allowance
pub record FeedAnswer (log : Log) (rest : List ℕ) (k : ℕ) (tell : Told) : Type 0 where
  pub answer : Fed
  pub feeds : Feeds log rest k tell answer

-- bytes that there is room for enter a log
record Entry (log : Log) (bytes : List ℕ) (t : Turn) (left : ℕ) : Type 0 where
  log' : Log
  worked : Blocks
  enters : Entered log bytes t left log' (blocks_of worked)

-- a message between parts has at most as many bytes as any
total_most : (log : Log) (h : History) (p : Part) → Stands log (parted h p) → p.total ≤ 16388
total_most log h p st =
    let rest : List ℕ = replicate (left_of p) 0 in
    let n : length rest ≡ left_of p = length-replicate (left_of p) 0 in
    let f = fine (p.got ++ rest) (accepted_is h (p.got ++ rest) p.tell (st.part.judged rest n)).shape in
    omega (arith, length-append p.got rest, n, f.longest)

-- so few are left of it
left_most : (log : Log) (s : Standing) → Stands log s → log.left ≤ 65535
left_most log (whole h) st = omega (arith, st.part.left)
left_most log (parted h p) st = omega (arith, st.part.left, total_most log h p st)

-- and what has entered is far from either hash's bound
near : (log : Log) (s : Standing) → Stands log s → length (entered s) ≤ 294984
near log (whole h) st = omega (arith, st.short, number_most (place_of h))
near log (parted h p) st =
    omega (arith, st.short, number_most (place_of h), length-append (hashed h) p.got, st.part.some, total_most log h p st)

-- what a log stands for is whole by the bytes that are left
same_between : (log : Log) (s t : Standing) → Stands log s → Stands log t → between s ≡ between t
same_between log (whole h) (whole g) p q = refl
same_between log (whole h) (parted g r) p q = absurd (omega (arith, p.part.left, q.part.left, q.part.some))
same_between log (parted h r) (whole g) p q = absurd (omega (arith, q.part.left, p.part.left, p.part.some))
same_between log (parted h r) (parted g u) p q = refl

module _ (log : Log) (s : Standing) (st : Stands log s) where
  entry : (bytes : List ℕ) (t : Turn) (left : ℕ) → length bytes ≤ 65535 → Entry log bytes t left
  entry bytes t left l =
      let y = further log.hash bytes in
      let g = y.next in
      let w : Blocks = record { sha256 = y.worked256; sha384 = y.worked384 } in
      let x = y.enters in
      by_test (eqb left 0)
      (λ e.
      let z : left ≡ 0 = eqb-true left 0 e in
      by_test (eqb t.kind 2)
      (λ u.
      let c = choosing g (algorithm_by (yes t.sha384)) in
      record { log' = _; worked = w; enters = entered_server log bytes t left g (blocks_of w) x z (eqb-true t.kind 2 u) c.next c.chooses })
      (λ u.
      let o = eqb-false t.kind 2 u in
      by_test (eqb t.kind 16)
      (λ f.
      record {
        log' = _;
        worked = w;
        enters =
            entered_exchange log bytes t left g (blocks_of w) x z o (eqb-true t.kind 16 f) (in_field (digest_of (suite_of (history_of s)) (entered s ++ bytes)))
            (λ c m h.
            ap in_field
            (one_digest g (entered s ++ bytes) m (choice_of (history_of s)) c
            (x.carries (choice_of (history_of s)) (entered s) st.hash (omega (arith, near log s st, l))) h));
      })
      (λ f. record { log' = _; worked = w; enters = entered_other log bytes t left g (blocks_of w) x z o (eqb-false t.kind 16 f) })))
      (λ e. record { log' = _; worked = w; enters = entered_part log bytes t left g (blocks_of w) x (eqb-false left 0 e) })

  -- whatever else the log stands for has the same place
  same_places : (p : Place) → log.place ≡ number p → place_of (history_of s) ≡ p
  same_places p e = same_place (place_of (history_of s)) p (sym st.place.number ∙ e)

  module _ (m : List ℕ) (tell : Told) where
    -- what `turn` would hand out
    record Turning : Type 0 where
      turn : Result (Option Turn) Reason
      turned : TurnOf log m tell turn

    place : ℕ
    place = number (look (kind_of m) (turns tell.resumes (place_of (history_of s))))

    leads : (p : Place) → log.place ≡ number p → place ≡ number (look (kind_of m) (turns tell.resumes p))
    unfolding place
    leads p e = ap (λ (q : Place). number (look (kind_of m) (turns tell.resumes q))) (same_places p e)

    turning : Turning
    turning =
        by_test (eqb (shape_number m) 0)
        (λ e.
        let k = kinded m (eqb-true (shape_number m) 0 e) in
        by_test (eqb log.left 0)
        (λ u.
        let none = eqb-true log.left 0 u in
        by_test (eqb (kind_of m) 0)
        (λ f. record { turn = _; turned = request_turn log m tell (kind_of m) k none (eqb-true (kind_of m) 0 f) })
        (λ f.
        by_test (eqb (kind_of m) 20)
        (λ g. record { turn = _; turned = finished_turn log m tell (kind_of m) k none (eqb-true (kind_of m) 20 g) })
        (λ g.
        let z = eqb-false (kind_of m) 0 f in
        let o = eqb-false (kind_of m) 20 g in
        by_test (eqb place 17)
        (λ x. record { turn = _; turned = out_turn log m tell (kind_of m) k none z o place leads (eqb-true place 17 x) })
        (λ x. record { turn = _; turned = other_turn log m tell (kind_of m) k none z o place leads (eqb-false place 17 x) (hash_number tell.hash) refl }))))
        (λ u. record { turn = _; turned = between_turn log m tell (kind_of m) k (eqb-false log.left 0 u) }))
        (λ e. record { turn = _; turned = shape_turn log m tell (reason_of m) (reasoned m (eqb-false (shape_number m) 0 e)) })

    accept_answered : Answered log (accept m tell)
    accept_answered = go turning.turn turning.turned
      where
        go : (t : Result (Option Turn) Reason) → TurnOf log m tell t → Answered log (accept m tell)
        go (Err r) o = record { left = log; step = accepting (refused_accepts log m tell r o) }
        go (Ok None) o = record { left = log; step = accepting (request_accepts log m tell o) }
        go (Ok (Some t)) o =
            let i = entry m t 0 (omega (arith, (fine m o.leads.well).longest)) in
            record { left = i.log'; step = accepting (done_accepts log m tell t o i.log' (blocks_of i.worked) i.enters) }

  module _ (rest : List ℕ) (k : ℕ) (tell : Told) where
    record Parting : Type 0 where
      turn : Result (Option Turn) Reason
      parts : PartTurn log rest k tell turn

    parting : (log.left ≤ 65535) → Parting
    parting l =
        by_test (bad_allowance k)
        (λ b. record { turn = _; parts = allowance_part log rest k tell b })
        (λ b.
        by_test (eqb log.left 0)
        (λ e.
        record {
          turn = (turning rest tell).turn;
          parts = first_part log rest k tell b (turning rest tell).turn (turning rest tell).turned (eqb-true log.left 0 e);
        })
        (λ e.
        let n = eqb-false log.left 0 e in
        by_test (eqb (length rest) log.left)
        (λ f. record { turn = _; parts = next_part log rest k tell b n (eqb-true (length rest) log.left f) l })
        (λ f. record { turn = _; parts = length_part log rest k tell b n (eqb-false (length rest) log.left f) })))

    -- whatever else the log stands for lets in as much
    let_alike : (d : Choice) (l : List ℕ) → Carries log.hash d l → let_in (choice_of (history_of s)) k (entered s) (length rest) ≡ let_in d k l (length rest)
    let_alike d l h =
        let e : choice_of (history_of s) ≡ d = one_choice log.hash (entered s) l (choice_of (history_of s)) d st.hash h in
        rw e (let_in-length d k (entered s) l (length rest) (same_length log.hash (entered s) l (choice_of (history_of s)) d st.hash h))

    pub feed_answered : FeedAnswer log rest k tell
    feed_answered = let p = parting (left_most log s st) in go p.turn p.parts
      where
        go : (t : Result (Option Turn) Reason) → PartTurn log rest k tell t → FeedAnswer log rest k tell
        go (Err r) o = record { answer = _; feeds = refused_feeds log rest k tell r o }
        go (Ok None) o = record { answer = _; feeds = request_feeds log rest k tell o }
        go (Ok (Some t)) o =
            let c = choice_of (history_of s) in
            let n : ℕ = let_in c k (entered s) (length rest) in
            let w : n ≤ length rest = let_in-within c k (entered s) (length rest) in
            let i = entry (take n rest) t (length rest - n) (omega (arith, o.leads.size, length-take-le n rest w)) in
            record {
              answer = record { refusal = refusal_of 0; log = i.log'; taken = n; blocks = i.worked };
              feeds = done_feeds log rest k tell t o n i.log' i.worked w (λ d l h. let_alike d l h) i.enters;
            }

  -- whatever else the log stands for expects the same Finished, of the same side
  same_side : (g : History) → Placed log.place g → from_server (history_of s) ≡ from_server g
  same_side g p = sym (from_server_by log.place (history_of s) st.place) ∙ from_server_by log.place g p

  same_expected : (secret : List ℕ) (h g : History) → Stands log (whole h) → Stands log (whole g) → expected_value h secret ≡ expected_value g secret
  unfolding expected_value
  same_expected secret h g p q =
      let e : choice_of h ≡ choice_of g = one_choice log.hash (hashed h) (hashed g) (choice_of h) (choice_of g) p.hash q.hash in
      ap (λ (c : Choice). verify_data (function_of (algorithm_of c)) secret (from_server h) (digest_of (suite_of h) (hashed h))) e
      ∙ ap₂ (λ (b : Bool) (d : List ℕ). verify_data (function_of (suite_of g)) secret b d)
      (sym (from_server_by log.place h p.place) ∙ from_server_by log.place g q.place)
      (one_digest log.hash (hashed h) (hashed g) (choice_of h) (choice_of g) p.hash q.hash)

  abbrev is_due : Bool
  is_due = not (between s) && finished_due (place_of (history_of s))

  due_alike : (g : Standing) → Stands log g → is_due ≡ (not (between g) && finished_due (place_of (history_of g)))
  due_alike g q = ap₂ (λ (a : Bool) (p : Place). not a && finished_due p) (same_between log s g st q) (same_places (place_of (history_of g)) q.place.number)

  -- where the Finished that is due leads, and as the code has it
  abbrev leads_on : Place
  leads_on = look 20 (turns false (place_of (history_of s)))

  due : Due
  due = record { server = from_server (history_of s); next = held_at (number leads_on) }

  due_to : is_due ≡ true → (g : Standing) → Stands log g → (between g ≡ false) × DueTo (history_of g) due
  unfolding due finished_due
  due_to x g q =
      let y = sym (due_alike g q) ∙ x in
      let d : finished_due (place_of (history_of s)) ≡ true = and_right (not (between s)) (finished_due (place_of (history_of s))) x in
      let l = (turned false (place_of (history_of s)) 20 d).most in (
        not-true _ (and_left _ _ y),
        record {
          in_turn = and_right (not (between g)) _ y;
          server = same_side (history_of g) q.place;
          next = held_at_read leads_on l ∙ ap (λ (p : Place). look 20 (turns false p)) (same_places (place_of (history_of g)) q.place.number);
        },
      )

  module _ (secret m : List ℕ) where
    unfinished : (r : Reason) → Asks log secret m (Err r) → Answered log (finish secret m)
    unfinished r o = record { left = log; step = finishing (refused_finishes log secret m r o) }

    compared : Asks log secret m (Ok due) → Answered log (finish secret m)
    compared o =
        let v : List ℕ = expected_value (history_of s) secret in
        let u : (g : History) → Stands log (whole g) → due.server ≡ from_server g → v ≡ expected_value g secret = λ g q _. same_value g q in
        let i = further log.hash m in
        by_test (same (body_of m) v)
        (λ e.
        by_test due.server
        (λ f. record { left = _; step = finishing (equal_finishes log secret m due o v u e _ (takes_server log m v due _ refl i.next _ i.enters f)) })
        (λ f. record { left = _; step = finishing (equal_finishes log secret m due o v u e _ (takes_client log m v due _ refl i.next _ i.enters f)) }))
        (λ e. record { left = log; step = finishing (differs_finishes log secret m due o v u e) })
      where
        same_value : (g : History) → Stands log (whole g) → expected_value (history_of s) secret ≡ expected_value g secret
        same_value g q = by_due s st (o.asked.due s st).0
          where
            by_due : (t : Standing) → Stands log t → between t ≡ false → expected_value (history_of t) secret ≡ expected_value g secret
            by_due (whole h) p e = same_expected secret h g p q
            by_due (parted h p) t e = absurd (false≢true (sym e))

    finish_answered : Answered log (finish secret m)
    finish_answered =
        by_test (eqb (length secret) 48)
        (λ e.
        let n = eqb-true (length secret) 48 e in
        by_test (eqb (shape_number m) 0)
        (λ f.
        let k = kinded m (eqb-true (shape_number m) 0 f) in
        by_test (eqb (kind_of m) 20)
        (λ g.
        let f = eqb-true (kind_of m) 20 g in
        by_test is_due
        (λ x. compared (done_asks log secret m n (kind_of m) k f due (due_to x)))
        (λ x. unfinished _ (due_asks log secret m n (kind_of m) k f (λ g q. sym (due_alike g q) ∙ x))))
        (λ g. unfinished _ (kind_asks log secret m n (kind_of m) k (eqb-false (kind_of m) 20 g))))
        (λ f. unfinished _ (shape_asks log secret m n (reason_of m) (reasoned m (eqb-false (shape_number m) 0 f)))))
        (λ e. unfinished _ (secret_asks log secret m (eqb-false (length secret) 48 e)))

  answered : (c : Call) → Answered log c
  answered (accept m tell) = accept_answered m tell
  answered (finish secret m) = finish_answered secret m
  answered (feed rest k tell) = let a = feed_answered rest k tell in record { left = a.answer.log; step = feeding a.feeds }

ran : (cs : List Call) (log : Log) (s : Standing) → Stands log s → Ran log cs
ran [] log s st = record { left = log; run = done }
ran (c ∷ cs) log s st =
    let a = answered log s st c in
    let r = ran cs a.left (after s c) (step_stands log a.left s c st a.step) in
    record { left = r.left; run = next a.step r.run }

pub total : Total
total log cs st = ran cs log (whole fresh) st
