-- Accepting a message: its number at each way out, and what is promised of the log that is handed back.
-- Assumes nothing.
use mathlib.Core.Path.{◌≡◌, refl, sym, ◌∙◌, ap}
use mathlib.Core.Bool.{Bool, true, false, not}
use mathlib.Core.List.{List, [], ◌∷◌, ◌++◌, append-nil}
use Rattle.std.proofs.Common.{Option, Some, None, Result, Ok, Err}
use Prim.Native.Nat.{ℕ, ◌≤◌}
use native.Mathlib.Omega.{arith}
use lib.Dec.{eqb}
use borrow.Author.Tests.{ne_eqb}
use Rattle.seqs.specs.Pick.{pick}
use Rattle.refusal.specs.First.{first_of}
use Rattle.refusal.proofs.First.{first_front}
use Rattle.refusal.specs.Table.{refusal_of, refusal_at}
use Rattle.message.specs.Frame.{kind_of, overlong, misstated}
use Rattle.message_log.specs.Told.{Told}
use Rattle.message_log.specs.Order.{Place, turns, look, is_due}
use Rattle.transcript.specs.Choice.{Algorithm}
use Rattle.message_log.specs.History.{History, tells, place_of, hashed, choice_of}
use Rattle.message_log.specs.History.History.{accepted}
use Rattle.message_log.specs.History.Beside.{told}
use Rattle.message_log.specs.Standing.{Standing, Part, history_of, between, entered}
use Rattle.message_log.specs.Standing.Standing.{whole, parted}
use Rattle.message_log.specs.Calls.{misshapen, shape_number, broken_at, out_of_turn, is_finished, accept_number, after_accept}
use Rattle.message_log.specs.Finish.{Compared}
use Rattle.message_log.specs.Stands.{Stands, number, hash_number}
use Rattle.refusal.specs.Listed.{row_number, numbered_at, row_at, listed_at}
use Rattle.refusal.specs.Reason.{refusal_for, refusal_in}
use Rattle.refusal.specs.declared.reason.Reason.{Reason}
use Rattle.refusal.specs.declared.reason.Reason.TheVariants.{OutOfTurn}
use Rattle.message_log.specs.Promise.{Accepts}
use Rattle.message_log.specs.Steps.{Judges, InTurn, Leads, TurnOf, Entered}
use Rattle.message_log.specs.declared.state.Log.{Log}
use Rattle.message_log.specs.declared.state.Turn.{Turn}
use Rattle.message_log.proofs.Turns.{due_number}
use Rattle.message_log.proofs.Reasons.{refuses, out_of_turn_at, done_at}
use Rattle.message_log.proofs.Messages.{Fine, fine, well_shaped, shape_most}
use Rattle.message_log.proofs.Chosen.{hash_stands}
use Rattle.message_log.proofs.Standing.{by_whole, by_parted, far, carried, request_stands, taking_stands}

-- the log that the last bytes of a message have entered, behind those that were taken of it: the message is accepted
pub last_stands : (log : Log) (s : Standing) (got bytes : List ℕ) (tell : Told) (t : Turn) (r : Log) (worked : Algorithm → ℕ)
    → Stands log s → entered s ≡ hashed (history_of s) ++ got → InTurn (history_of s) (got ++ bytes) (told tell) t
    → (kind_of (got ++ bytes) ≡ 20 → ⊥) → Entered log bytes t 0 r worked
    → Stands r (whole (accepted (history_of s) (got ++ bytes) (told tell)))
unfolding Compared
last_stands log s got bytes tell t r worked st e i o x =
    let m = got ++ bytes in
    let l = hashed (history_of s) ++ m in
    let c = carried log s got bytes st e i.size (far log s m (told tell) t st i) x.hash worked x.enters in
    let z : eqb t.kind 20 ≡ false = ne_eqb t.kind 20 (λ q. o (sym i.kind ∙ q)) in
    let y = x.last refl in
    taking_stands log s m (told tell) t st i r (hash_stands log s m bytes l (told tell) t r worked st i x c) y.0
    (x.session refl (choice_of (history_of s)) l c) (x.client ∙ (rw z)) (x.server ∙ (rw z)) y.1 (o, st.compared)

-- the number of each way out
module _ (m : List ℕ) (tell : Told) where
  pub accept_shape : (s : Standing) → (shape_number m ≡ 0 → ⊥) → accept_number s m tell ≡ shape_number m
  unfolding accept_number shape_number
  accept_shape s z = first_front ((10, overlong m) ∷ (1, misstated m) ∷ (1, misshapen m) ∷ []) _ z

  module _ (f : Fine m) where
    accept_tests : (s : Standing) (a b c : Bool) → between s ≡ a → is_finished m ≡ b → out_of_turn (history_of s) m tell ≡ c
        → accept_number s m tell ≡ pick a 7 (pick b 7 (pick c 7 0))
    unfolding accept_number first_of
    accept_tests s a b c x p q = rw (f.short, f.stated, f.shaped, x, p, q)

    -- '7 for another log call between parts'
    pub accept_between : (s : Standing) → between s ≡ true → accept_number s m tell ≡ 7
    accept_between s e = accept_tests s true (is_finished m) (out_of_turn (history_of s) m tell) e refl refl

    -- 'type 20 fed otherwise is 7', due or not
    pub accept_finished : kind_of m ≡ 20 → (s : Standing) → accept_number s m tell ≡ 7
    unfolding is_finished
    accept_finished k s = accept_tests s (between s) true (out_of_turn (history_of s) m tell) refl (rw k) refl ∙ seven (between s)
      where
        seven : (b : Bool) → ◌≡◌ {A = ℕ} (pick b 7 7) 7
        seven true = refl
        seven false = refl

    module _ (h : History) where
      pub accept_turn : (a b : Bool) → is_finished m ≡ a → out_of_turn h m tell ≡ b → accept_number (whole h) m tell ≡ pick a 7 (pick b 7 0)
      accept_turn a b p q = accept_tests (whole h) false a b refl p q

      pub accept_request : kind_of m ≡ 0 → accept_number (whole h) m tell ≡ 0
      unfolding is_finished out_of_turn
      accept_request k = accept_turn false false (rw k) (rw k)

      pub accept_by : (kind_of m ≡ 0 → ⊥) → (kind_of m ≡ 20 → ⊥) → (b : Bool) → is_due (kind_of m) (turns tell.resumes (place_of h)) ≡ b
          → accept_number (whole h) m tell ≡ pick b 0 7
      unfolding is_finished out_of_turn
      accept_by k g true e = accept_turn false false (ne_eqb (kind_of m) 20 g) (rw (ne_eqb (kind_of m) 0 k, e))
      accept_by k g false e = accept_turn false true (ne_eqb (kind_of m) 20 g) (rw (ne_eqb (kind_of m) 0 k, e))

-- the ways out of `turn`
module _ (log : Log) (m : List ℕ) (tell : Told) where
  refused_turn : (n : ℕ) (r : Reason) → refusal_for r ≡ refusal_at n (broken_at m) → n ≤ 11
      → (kind_of m ≡ 20 → (s : Standing) → accept_number s m tell ≡ n) → ((s : Standing) → Stands log s → accept_number s m tell ≡ n)
      → TurnOf log m tell (Err r)
  refused_turn n r d l e f =
      let i : (refusal_for r).number ≡ n = numbered_at n (broken_at m) (refusal_for r) d in
      record {
        within = omega (arith, i, l);
        placed = row_at n (broken_at m) (refusal_for r) d;
        number = λ s st. f s st ∙ sym i;
        fed = λ x s. e x s ∙ sym i;
        leads = tt;
      }

  done_turn : (t : Option Turn) → ((s : Standing) → Stands log s → accept_number s m tell ≡ 0) → Leads log m tell t → TurnOf log m tell (Ok t)
  done_turn t f l =
      record {
        within = omega (arith, row_number 0);
        placed = done_at (broken_at m);
        number = λ s st. f s st ∙ sym (row_number 0);
        fed = λ x. absurd (l.other x);
        leads = l;
      }

  -- a message that is refused by itself
  pub shape_turn : (r : Reason) → Judges m (Err r) → TurnOf log m tell (Err r)
  shape_turn r jd =
      let n : (refusal_for r).number ≡ shape_number m = numbered_at (shape_number m) (broken_at m) (refusal_for r) jd.refusal in
      let q : shape_number m ≡ 0 → ⊥ = λ e. refuses r (n ∙ e) in
      refused_turn (shape_number m) r jd.refusal (omega (arith, shape_most m)) (λ _ s. accept_shape m tell s q) (λ s _. accept_shape m tell s q)

  -- and one that is not, of type k
  module _ (k : ℕ) (jd : Judges m (Ok k)) where
    well : Fine m
    well = fine m (well_shaped m k jd)

    seventh : (kind_of m ≡ 20 → (s : Standing) → accept_number s m tell ≡ 7) → ((s : Standing) → Stands log s → accept_number s m tell ≡ 7)
        → TurnOf log m tell (Err OutOfTurn)
    seventh = refused_turn 7 OutOfTurn (out_of_turn_at (broken_at m)) (omega arith)

    pub between_turn : (log.left ≡ 0 → ⊥) → TurnOf log m tell (Err OutOfTurn)
    between_turn n = seventh (accept_finished m tell well) (λ s st. accept_between m tell well s (by_parted log n s st))

    module _ (none : log.left ≡ 0) where
      pub request_turn : k ≡ 0 → TurnOf log m tell (Ok None)
      request_turn z =
          let e : kind_of m ≡ 0 = sym jd.kind ∙ z in
          done_turn None
          (by_whole log none (λ (s : Standing). accept_number s m tell ≡ 0) (λ h st. accept_request m tell well h e))
          (record { other = λ x. omega (arith, e, x); well = well_shaped m k jd; turn = e })

      pub finished_turn : k ≡ 20 → TurnOf log m tell (Err OutOfTurn)
      finished_turn e =
          let n : (s : Standing) → accept_number s m tell ≡ 7 = accept_finished m tell well (sym jd.kind ∙ e) in
          seventh (λ _. n) (λ s _. n s)

      module _ (z : k ≡ 0 → ⊥) (g : k ≡ 20 → ⊥) (q : ℕ)
          (e : (p : Place) → log.place ≡ number p → q ≡ number (look k (turns tell.resumes p))) where
        leads_to : (h : History) → Stands log (whole h) → q ≡ number (look (kind_of m) (turns tell.resumes (place_of h)))
        leads_to h s = rw (← jd.kind) (e (place_of h) s.place.number)

        there : (h : History) → Stands log (whole h) → is_due (kind_of m) (turns tell.resumes (place_of h)) ≡ not (eqb q 17)
        there h s = sym (due_number tell.resumes (place_of h) (kind_of m) q (leads_to h s))

        numbered_by : (b : Bool) → not (eqb q 17) ≡ b → (s : Standing) → Stands log s → accept_number s m tell ≡ pick b 0 7
        numbered_by b x =
            by_whole log none (λ (s : Standing). accept_number s m tell ≡ pick b 0 7)
            (λ h s. accept_by m tell well h (λ y. z (jd.kind ∙ y)) (λ y. g (jd.kind ∙ y)) b (there h s ∙ x))

        pub out_turn : q ≡ 17 → TurnOf log m tell (Err OutOfTurn)
        out_turn n = seventh (λ x. absurd (g (jd.kind ∙ x))) (numbered_by false (rw n))

        pub other_turn : (q ≡ 17 → ⊥) → (i : ℕ) → i ≡ hash_number tell.hash
            → TurnOf log m tell (Ok (Some (record { kind = k; place = q; sha384 = i })))
        unfolding tells
        other_turn n i w =
            done_turn (Some (record { kind = k; place = q; sha384 = i })) (numbered_by true (rw (ne_eqb q 17 n)))
            (record {
              other = λ x. g (jd.kind ∙ x);
              well = well_shaped m k jd;
              turn =
                  λ h s.
                  record { kind = jd.kind; hashed = z; place = leads_to h s; told = w; due = there h s ∙ (rw (ne_eqb q 17 n)); size = well.longest };
            })

-- the ways out of the call
module _ (log : Log) (m : List ℕ) (tell : Told) where
  answers : (t : Result (Option Turn) Reason) → TurnOf log m tell t → (left : Log) → (((refusal_in t).number ≡ 0 → ⊥) → left ≡ log)
      → ((s : Standing) → Stands log s → Stands left (after_accept s m tell)) → Accepts log m tell (record { refusal = refusal_in t; log = left })
  answers t o left k f =
      record {
        listed = listed_at (refusal_in t).number (broken_at m) (refusal_in t) o.placed o.within;
        placed = o.placed;
        kept = k;
        fed = λ x s. o.placed ∙ ap (λ (n : ℕ). refusal_at n (broken_at m)) (sym (o.fed x s));
        refusal = λ s st. o.placed ∙ ap (λ (n : ℕ). refusal_at n (broken_at m)) (sym (o.number s st));
        stands = f;
      }

  pub refused_accepts : (r : Reason) → TurnOf log m tell (Err r) → Accepts log m tell (record { refusal = refusal_for r; log = log })
  unfolding after_accept
  refused_accepts r o = answers (Err r) o log (λ _. refl) (λ s st. rw (o.number s st, ne_eqb (refusal_for r).number 0 (refuses r)) st)

  module _ (t : Option Turn) (o : TurnOf log m tell (Ok t)) where
    -- between parts it is refused
    not_between : (h : History) (p : Part) → Stands log (parted h p) → ⊥
    not_between h p st =
        omega (arith, row_number 0, o.number (parted h p) st, accept_between m tell (fine m o.leads.well) (parted h p) refl)

    taken_by : (left : Log) → ((h : History) → Stands log (whole h) → Stands left (whole (accepted h m (told tell))))
        → Accepts log m tell (record { refusal = refusal_of 0; log = left })
    unfolding after_accept
    taken_by left f = answers (Ok t) o left (λ n. absurd (n (row_number 0))) go
      where
        go : (s : Standing) → Stands log s → Stands left (after_accept s m tell)
        go (whole h) st = rw (o.number (whole h) st, row_number 0) (f h st)
        go (parted h p) st = absurd (not_between h p st)

  pub request_accepts : TurnOf log m tell (Ok None) → Accepts log m tell (record { refusal = refusal_of 0; log = log })
  request_accepts o = taken_by None o log (λ h s. request_stands log h m tell s o.leads.turn)

  pub done_accepts : (t : Turn) → TurnOf log m tell (Ok (Some t)) → (left : Log) (worked : Algorithm → ℕ) → Entered log m t 0 left worked
      → Accepts log m tell (record { refusal = refusal_of 0; log = left })
  done_accepts t o left worked a =
      taken_by (Some t) o left
      (λ h s. last_stands log (whole h) [] m tell t left worked s (sym (append-nil (hashed h))) (o.leads.turn h s) o.leads.other a)
