-- A message by parts: the number at each way out, and what is promised of the log that is handed back.
-- Assumes nothing.
use mathlib.Core.Path.{◌≡◌, refl, sym, ◌∙◌, ap, subst}
use mathlib.Core.Bool.{true, false, false≢true}
use mathlib.Core.Logic.{◌⊎◌, inl, inr}
use mathlib.Core.List.{List, ◌++◌, append-nil, append_assoc}
use Rattle.std.proofs.Common.{Option, Some, None, Result, Ok, Err}
use Rattle.std.specs.Prelude.{IfOk}
use Prim.Native.Nat.{ℕ, ◌+◌, ◌-◌, ◌*◌, ◌≤◌, ◌<◌}
use native.Mathlib.Omega.{arith}
use lib.Dec.{eqb, ltb}
use lib.ListN.{length, take, drop, length-append, take-append-drop}
use lib.Seq.{take_all, take-append-le, length-take-le}
use borrow.Author.Tests.{eq-eqb, ne_eqb, eqb-true, eqb-false, ltb-false}
use Rattle.seqs.specs.Cases.{by_test, or_left, or_right}
use Rattle.refusal.specs.First.{first_of}
use Rattle.refusal.specs.Table.{refusal_of, refusal_at}
use Rattle.refusal.specs.Listed.{row_number, row_at, listed_at}
use Rattle.refusal.specs.Reason.{refusal_for, refusal_in}
use Rattle.refusal.specs.declared.reason.Reason.{Reason}
use Rattle.refusal.specs.declared.reason.Reason.TheVariants.{Length}
use Rattle.message.specs.Frame.{kind_of}
use Rattle.transcript.specs.Choice.{Algorithm, Choice}
use Rattle.transcript.specs.Choice.Algorithm.{sha_256, sha_384}
use Rattle.transcript.specs.Allowance.{let_in}
use Rattle.transcript.specs.Carries.{Carries}
use Rattle.transcript.specs.Laws.{let_in-within, let_in-blocks}
use Rattle.message_log.specs.Told.{Told}
use Rattle.message_log.specs.History.{History, tells, hashed, choice_of}
use Rattle.message_log.specs.History.History.{accepted}
use Rattle.message_log.specs.History.Beside.{told}
use Rattle.message_log.specs.Standing.{Standing, Part, history_of, between, entered, left_of}
use Rattle.message_log.specs.Standing.Standing.{whole, parted}
use Rattle.message_log.specs.Calls.{broken_at, accept_number}
use Rattle.message_log.specs.Feed.{bad_allowance, begun, feed_number, lets, got_by, blocks_by, takes, feed_taken, feed_blocks, after_feed}
use Rattle.message_log.specs.Stands.{Stands}
use Rattle.message_log.specs.Promise.{Feeds, blocks_of}
use Rattle.message_log.specs.Steps.{none, InTurn, TurnOf, Entering, PartLeads, PartTurn, Entered}
use Rattle.message_log.specs.declared.state.Log.{Log}
use Rattle.message_log.specs.declared.state.Turn.{Turn}
use Rattle.transcript.specs.declared.Blocks.{Blocks}
use Rattle.message_log.proofs.Reasons.{for_number, refuses, length_at, done_at}
use Rattle.message_log.proofs.Messages.{fine}
use Rattle.message_log.proofs.Standing.{by_whole, far, carried, request_stands}
use Rattle.message_log.proofs.Heads.{kind_front, same_header, accepted_is, accepted_turn, request_length}
use Rattle.message_log.proofs.Accepting.{last_stands}

pub below : (n l : ℕ) → n ≤ l → (n ≡ l → ⊥) → n < l
below n l h z = omega (arith, h, z)

-- ---- what is asked first

-- an allowance that is not refused
pub allowance_good : (k : ℕ) → bad_allowance k ≡ false → (1 ≤ k) × (k ≤ 256)
unfolding bad_allowance
allowance_good k e =
    let z = eqb-false k 0 (or_left (eqb k 0) (ltb 256 k) e) in
    (by_zero z, ltb-false 256 k (or_right (eqb k 0) (ltb 256 k) e))
  where
    by_zero : (k ≡ 0 → ⊥) → 1 ≤ k
    by_zero z = omega (arith, z)

module _ (log : Log) (rest : List ℕ) (k : ℕ) (tell : Told) where
  -- the two refusals by 10
  ten : ((s : Standing) → Stands log s → feed_number s rest k tell ≡ 10) → PartTurn log rest k tell (Err Length)
  ten f =
      record {
        within = omega (arith, for_number Length);
        placed = row_at 10 (broken_at rest) (refusal_for Length) (length_at (broken_at rest));
        number = λ s st. f s st ∙ sym (for_number Length);
        leads = tt;
      }

  done_part : (t : Option Turn) → ((s : Standing) → Stands log s → feed_number s rest k tell ≡ 0) → PartLeads log rest k tell t → PartTurn log rest k tell (Ok t)
  done_part t f l =
      record {
        within = omega (arith, row_number 0);
        placed = done_at (broken_at rest);
        number = λ s st. f s st ∙ sym (row_number 0);
        leads = l;
      }

  pub allowance_part : bad_allowance k ≡ true → PartTurn log rest k tell (Err Length)
  unfolding feed_number first_of
  allowance_part b = ten go
    where
      go : (s : Standing) → Stands log s → feed_number s rest k tell ≡ 10
      go (whole h) st = rw b
      go (parted h p) st = rw b

  module _ (good : bad_allowance k ≡ false) where
    -- a first part is judged as the message that it begins
    pub first_part : (t : Result (Option Turn) Reason) → TurnOf log rest tell t → log.left ≡ 0 → PartTurn log rest k tell t
    unfolding feed_number
    first_part t o e =
        record {
          within = o.within;
          placed = o.placed;
          number = by_whole log e (λ (s : Standing). feed_number s rest k tell ≡ (refusal_in t).number) (λ h st. rw good (o.number (whole h) st));
          leads = go t o;
        }
      where
        go : (t : Result (Option Turn) Reason) → TurnOf log rest tell t → IfOk t (PartLeads log rest k tell)
        go (Err r) o = tt
        go (Ok None) o =
            let l = o.leads in
            record {
              allowed = allowance_good k good;
              size = omega (arith, (fine rest l.well).longest);
              turn =
                  by_whole log e (λ (s : Standing). (between s ≡ false) × (kind_of rest ≡ 0) × (length rest ≡ 4))
                  (λ h st. (refl, l.turn, request_length rest l.well l.turn));
            }
        go (Ok (Some turn)) o =
            let l = o.leads in
            record {
              allowed = allowance_good k good;
              size = omega (arith, (fine rest l.well).longest);
              turn =
                  by_whole log e (λ (s : Standing). Entering s rest tell turn)
                  (λ h st. record { before = sym (append-nil (hashed h)); total = refl; accepts = o.number (whole h) st ∙ row_number 0; in_turn = l.turn h st });
            }

    module _ (n : log.left ≡ 0 → ⊥) where
      pub length_part : (length rest ≡ log.left → ⊥) → PartTurn log rest k tell (Err Length)
      unfolding feed_number first_of
      length_part e = ten go
        where
          go : (s : Standing) → Stands log s → feed_number s rest k tell ≡ 10
          go (whole h) st = absurd (n st.part.left)
          go (parted h p) st = rw (good, ne_eqb (length rest) (left_of p) (λ x. e (x ∙ sym st.part.left)))

      module _ (e : length rest ≡ log.left) (u : log.left ≤ 65535) where
        number : (s : Standing) → Stands log s → feed_number s rest k tell ≡ 0
        unfolding feed_number first_of
        number (whole h) st = absurd (n st.part.left)
        number (parted h p) st = rw (good, eq-eqb (length rest) (left_of p) (e ∙ st.part.left))

        -- no HelloRequest is between parts
        pub request_part : log.kind ≡ 0 → PartTurn log rest k tell (Ok None)
        request_part c = done_part None number (record { allowed = allowance_good k good; size = omega (arith, e, u); turn = go })
          where
            go : (s : Standing) → Stands log s → (between s ≡ false) × (kind_of rest ≡ 0) × (length rest ≡ 4)
            go (whole h) st = absurd (n st.part.left)
            go (parted h p) st = absurd (st.part.hashed (sym st.part.kind ∙ c))

        pub next_part : PartTurn log rest k tell (Ok (Some (record { kind = log.kind; place = log.next; sha384 = log.sha384 })))
        next_part =
            done_part (Some (record { kind = log.kind; place = log.next; sha384 = log.sha384 })) number
            (record { allowed = allowance_good k good; size = omega (arith, e, u); turn = enters })
          where
            enters : (s : Standing) → Stands log s → Entering s rest tell (record { kind = log.kind; place = log.next; sha384 = log.sha384 })
            enters (whole h) st = absurd (n st.part.left)
            enters (parted h p) st =
                let m = p.got ++ rest in
                let f : kind_of m ≡ kind_of p.got = kind_front p.got rest (omega (arith, st.part.header)) in
                let a : accept_number (whole h) m p.tell ≡ 0 = st.part.judged rest (e ∙ st.part.left) in
                record {
                  before = refl;
                  total = length-append p.got rest ∙ (omega (arith, e, st.part.left, st.part.some));
                  accepts = a;
                  in_turn =
                      accepted_turn h m p.tell a (record { kind = log.kind; place = log.next; sha384 = log.sha384 }) (st.part.kind ∙ sym f)
                      (λ z. st.part.hashed (sym st.part.kind ∙ z)) (rw f st.part.next) st.part.sha384;
                }

-- ---- the bytes that are taken

module _ (s : Standing) (rest : List ℕ) (tell : Told) (turn : Turn) (n : ℕ) (x : Entering s rest tell turn) where
  abbrev part : Part
  part = begun s rest tell

  abbrev h : History
  h = history_of s

  -- the message, whatever of it is taken
  abbrev m : List ℕ
  m = part.got ++ rest

  -- it begins with what was taken, and the rest of the rest follows
  cut : got_by s rest n tell ++ drop n rest ≡ m
  cut = append_assoc part.got (take n rest) (drop n rest) ∙ ap (λ (l : List ℕ). part.got ++ l) (take-append-drop n rest)

  all_taken : n ≡ length rest → got_by s rest n tell ≡ m
  all_taken e = ap (λ (l : List ℕ). part.got ++ l) (take_all n rest (omega arith))

  -- a message that is hashed
  pub got_kind : 1 ≤ length (got_by s rest n tell) → kind_of (got_by s rest n tell) ≡ turn.kind
  got_kind l = sym (kind_front (got_by s rest n tell) (drop n rest) l) ∙ ap kind_of cut ∙ sym x.in_turn.kind

  module _ (log : Log) (st : Stands log s) (r : Log) (worked : Algorithm → ℕ) (left : ℕ) (y : Entered log (take n rest) turn left r worked) (d : left ≡ length rest - n) where
    pub whole_stands : n ≡ length rest → Stands r (whole (accepted h (got_by s rest n tell) (told part.tell)))
    whole_stands e =
        let f : got_by s rest n tell ≡ m = all_taken e in
        let z : left ≡ 0 = omega arith in
        last_stands log s part.got (take n rest) part.tell turn r worked st x.before
        (subst (λ (l : List ℕ). InTurn h l (told part.tell) turn) (sym f) x.in_turn)
        (λ q. (accepted_is h m part.tell x.accepts).other (sym (ap kind_of f) ∙ q))
        (subst (λ (i : ℕ). Entered log (take n rest) turn i r worked) z y)

    module _ (less : n < length rest) (header : 4 ≤ length (got_by s rest n tell)) where
      some : left ≡ 0 → ⊥
      some e = omega arith

      longs : length (got_by s rest n tell) ≡ length part.got + n
      longs = length-append part.got (take n rest) ∙ ap (λ (i : ℕ). length part.got + i) (length-take-le n rest (omega arith))

      total : part.total ≡ length part.got + length rest
      total = sym x.total ∙ length-append part.got rest

      judged : (later : List ℕ) → length later ≡ part.total - length (got_by s rest n tell)
          → accept_number (whole h) (got_by s rest n tell ++ later) part.tell ≡ 0
      judged later e =
          let g = got_by s rest n tell in
          let a : take 4 (g ++ later) ≡ take 4 m = take-append-le 4 g later header ∙ sym (take-append-le 4 g (drop n rest) header) ∙ ap (take 4) cut in
          let b : length (g ++ later) ≡ length m = length-append g later ∙ (omega (arith, e, longs, total)) ∙ sym x.total in
          same_header (g ++ later) m a h part.tell b ∙ x.accepts

      pub part_stands : Stands r (parted h (record { got = got_by s rest n tell; total = part.total; tell = part.tell }))
      unfolding tells
      part_stands =
          let z = y.parted some in
          let k : kind_of (got_by s rest n tell) ≡ turn.kind = got_kind (omega (arith, header)) in
          let f : length (part.got ++ take n rest) ≤ 16388 = omega (arith, x.in_turn.size, longs, length-append part.got rest) in
          record {
            place = rw z.1 st.place;
            hash =
                rw z.0
                (carried log s part.got (take n rest) st x.before f (far log s m (told part.tell) turn st x.in_turn) y.hash worked y.enters);
            short = st.short;
            session = z.2 ∙ st.session;
            client = y.client ∙ st.client;
            server = y.server ∙ st.server;
            compared = st.compared;
            part =
                record {
                  kind = z.3 ∙ sym k;
                  next = z.4 ∙ x.in_turn.place ∙ (rw (k, x.in_turn.kind));
                  sha384 = z.5 ∙ x.in_turn.told;
                  left = z.6 ∙ d ∙ (omega (arith, longs, total));
                  header = header;
                  some = omega (arith, longs, total);
                  hashed = λ q. x.in_turn.hashed (sym k ∙ q);
                  judged = judged;
                };
          }

-- ---- the ways out of the call

none_of : (a : Algorithm) → blocks_of none a ≡ 0
none_of sha_256 = refl
none_of sha_384 = refl

module _ (log : Log) (rest : List ℕ) (k : ℕ) (tell : Told) where
  answers : (t : Result (Option Turn) Reason) → PartTurn log rest k tell t → (left : Log) (taken : ℕ) (blocks : Blocks)
      → (((refusal_in t).number ≡ 0 → ⊥) → (left ≡ log) × (taken ≡ 0) × ((a : Algorithm) → blocks_of blocks a ≡ 0)) → taken ≤ length rest
      → ((s : Standing) → Stands log s → taken ≡ feed_taken s rest k tell)
      → ((s : Standing) → Stands log s → (a : Algorithm) → blocks_of blocks a ≡ feed_blocks s rest k tell a)
      → ((s : Standing) → Stands log s → Stands left (after_feed s rest k tell))
      → Feeds log rest k tell (record { refusal = refusal_in t; log = left; taken = taken; blocks = blocks })
  answers t o left taken blocks kept within f g e =
      record {
        listed = listed_at (refusal_in t).number (broken_at rest) (refusal_in t) o.placed o.within;
        placed = o.placed;
        kept = kept;
        within = within;
        refusal = λ s st. o.placed ∙ ap (λ (n : ℕ). refusal_at n (broken_at rest)) (sym (o.number s st));
        taken = f;
        blocks = g;
        stands = e;
      }

  pub refused_feeds : (r : Reason) → PartTurn log rest k tell (Err r) → Feeds log rest k tell (record { refusal = refusal_for r; log = log; taken = 0; blocks = none })
  unfolding feed_taken feed_blocks after_feed
  refused_feeds r o =
      let no : eqb (refusal_for r).number 0 ≡ false = ne_eqb (refusal_for r).number 0 (refuses r) in
      answers (Err r) o log 0 none (λ _. (refl, refl, none_of)) (omega arith) (λ s st. rw (o.number s st, no)) (λ s st a. rw (o.number s st, no) (none_of a))
      (λ s st. rw (o.number s st, no) st)

  -- what n bytes lead to, as many as the allowance lets in
  taken_feeds : (t : Option Turn) → PartTurn log rest k tell (Ok t) → (left : Log) (n : ℕ) (blocks : Blocks) → n ≤ length rest
      → ((s : Standing) → Stands log s
      → (n ≡ lets s rest k) × ((a : Algorithm) → blocks_of blocks a ≡ blocks_by s rest n tell a) × Stands left (takes s rest n tell))
      → Feeds log rest k tell (record { refusal = refusal_of 0; log = left; taken = n; blocks = blocks })
  unfolding feed_taken feed_blocks after_feed
  taken_feeds t o left n blocks l f =
      let z = row_number 0 in
      answers (Ok t) o left n blocks (λ y. absurd (y z)) l (λ s st. rw (o.number s st, z) (f s st).0)
      (λ s st a. rw (o.number s st, z, ← (f s st).0) ((f s st).1 a)) (λ s st. rw (o.number s st, z, ← (f s st).0) (f s st).2)

  -- a HelloRequest: its four bytes, no blocks, and the log as it was
  pub request_feeds : PartTurn log rest k tell (Ok None)
      → Feeds log rest k tell (record { refusal = refusal_of 0; log = log; taken = length rest; blocks = none })
  unfolding blocks_by takes
  request_feeds o = taken_feeds None o log (length rest) none (omega arith) go
    where
      four : (c : Choice) (i : List ℕ) → length rest ≡ 4 → length rest ≡ let_in c k i (length rest)
      four c i e = by_sum (let_in-blocks c k i (length rest))
        where
          by_sum : (let_in c k i (length rest) ≡ length rest) ⊎ (64 * k ≤ let_in c k i (length rest)) → length rest ≡ let_in c k i (length rest)
          by_sum (inl q) = sym q
          by_sum (inr q) = absurd (omega (arith, e, let_in-within c k i (length rest), o.leads.allowed.0))

      go : (s : Standing) → Stands log s
          → (length rest ≡ lets s rest k) × ((a : Algorithm) → blocks_of none a ≡ blocks_by s rest (length rest) tell a) × Stands log (takes s rest (length rest) tell)
      go (whole h) st =
          let q = o.leads.turn (whole h) st in
          let all : take (length rest) rest ≡ rest = take_all (length rest) rest (omega arith) in (
            four (choice_of h) (hashed h) q.2,
            λ a. rw (all, q.1) (none_of a),
            rw (eq-eqb (length rest) (length rest) refl, all) (request_stands log h rest tell st q.1),
          )
      go (parted h p) st = absurd (false≢true (sym (o.leads.turn (parted h p) st).0))

  -- any other message
  pub done_feeds : (t : Turn) → PartTurn log rest k tell (Ok (Some t)) → (n : ℕ) (left : Log) (worked : Blocks) → n ≤ length rest
      → ((c : Choice) (i : List ℕ) → Carries log.hash c i → n ≡ let_in c k i (length rest))
      → Entered log (take n rest) t (length rest - n) left (blocks_of worked)
      → Feeds log rest k tell (record { refusal = refusal_of 0; log = left; taken = n; blocks = worked })
  unfolding blocks_by takes
  done_feeds t o n left worked l e y = taken_feeds (Some t) o left n worked l go
    where
      go : (s : Standing) → Stands log s
          → (n ≡ lets s rest k) × ((a : Algorithm) → blocks_of worked a ≡ blocks_by s rest n tell a) × Stands left (takes s rest n tell)
      go s st = (d, blocks, by_test (eqb n (length rest)) all some)
        where
          x : Entering s rest tell t
          x = o.leads.turn s st

          d : n ≡ lets s rest k
          d = e (choice_of (history_of s)) (entered s) st.hash

          -- all of the rest, or 64 bytes and more
          enough : (n ≡ length rest) ⊎ (64 ≤ n)
          enough = by_sum (let_in-blocks (choice_of (history_of s)) k (entered s) (length rest))
            where
              by_sum : (lets s rest k ≡ length rest) ⊎ (64 * k ≤ lets s rest k) → (n ≡ length rest) ⊎ (64 ≤ n)
              by_sum (inl q) = inl (d ∙ q)
              by_sum (inr q) = inr (omega (arith, d, q, o.leads.allowed.0))

          long : 4 ≤ length (got_by s rest n tell)
          long = by_sum enough
            where
              size : length (got_by s rest n tell) ≡ length (begun s rest tell).got + n
              size = length-append (begun s rest tell).got (take n rest) ∙ ap (λ (i : ℕ). length (begun s rest tell).got + i) (length-take-le n rest l)

              by_sum : (n ≡ length rest) ⊎ (64 ≤ n) → 4 ≤ length (got_by s rest n tell)
              by_sum (inl q) =
                  omega (arith, size, q, length-append (begun s rest tell).got rest, (fine _ (accepted_is _ _ _ x.accepts).shape).shortest)
              by_sum (inr q) = omega (arith, size, q)

          blocks : (a : Algorithm) → blocks_of worked a ≡ blocks_by s rest n tell a
          blocks a =
              rw (ne_eqb (kind_of (got_by s rest n tell)) 0 (λ q. x.in_turn.hashed (sym (got_kind s rest tell t n x (omega (arith, long))) ∙ q)))
              (y.enters.counts (choice_of (history_of s)) (entered s) st.hash a)

          all : eqb n (length rest) ≡ true → Stands left (takes s rest n tell)
          all q = rw q (whole_stands s rest tell t n x log st left (blocks_of worked) (length rest - n) y refl (eqb-true n (length rest) q))

          some : eqb n (length rest) ≡ false → Stands left (takes s rest n tell)
          some q =
              let less : n < length rest = below n (length rest) l (eqb-false n (length rest) q) in
              rw q (part_stands s rest tell t n x log st left (blocks_of worked) (length rest - n) y refl less long)
