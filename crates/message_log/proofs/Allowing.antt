-- A message that the single call accepts enters by every list of allowances that is long enough; and the cases of specs/Parts.antt.
-- Assumes nothing.
use mathlib.Core.Path.{◌≡◌, refl, ◌∙◌, ap}
use mathlib.Core.Bool.{Bool, true, false}
use mathlib.Core.Logic.{◌⊎◌, inl, inr}
use mathlib.Core.List.{List, [], ◌∷◌, ◌++◌, map, append-nil}
use Prim.Native.Nat.{ℕ, zero, suc, ◌+◌, ◌-◌, ◌*◌, ◌≤◌}
use native.Mathlib.Omega.{arith}
use lib.Dec.{eqb}
use lib.ListN.{length, take, drop, replicate, length-append, length-drop, length-replicate, take-append-drop}
use lib.Seq.{take_all, length-take-le}
use borrow.Author.Tests.{eq-eqb, ne_eqb, eqb-true, eqb-false, le-ltb}
use Rattle.seqs.specs.Cases.{by_test}
use Rattle.refusal.specs.First.{first_of}
use Rattle.refusal.specs.Listed.{numbered_at}
use Rattle.message.specs.Numbers.{byte_at, pair_at, triple_at}
use Rattle.message.specs.Frame.{kind_of, body_of, overlong, cut_off, misstated}
use Rattle.transcript.specs.Choice.{Algorithm}
use Rattle.transcript.specs.Choice.Algorithm.{sha_256}
use Rattle.transcript.specs.Allowance.{room_of, room, let_in, blocks}
use Rattle.message_log.specs.Told.{Told, full}
use Rattle.message_log.specs.Order.{turns, is_due, look}
use Rattle.message_log.specs.History.{History, tells, place_of, hashed, choice_of}
use Rattle.message_log.specs.History.History.{fresh, accepted}
use Rattle.message_log.specs.History.Beside.{told}
use Rattle.message_log.specs.Standing.{Standing, Part, history_of, left_of}
use Rattle.message_log.specs.Standing.Standing.{whole, parted}
use Rattle.message_log.specs.Calls.{wrong_body, misshapen, broken_at, is_finished, out_of_turn, accept_number, after_accept}
use Rattle.message_log.specs.Feed.{bad_allowance, begun, feed_number, got_by, blocks_by, takes, feed_taken, feed_blocks, after_feed}
use Rattle.message_log.specs.Stands.{Stands}
use Rattle.message_log.specs.Parts.{Feeding, Taken, bytes_taken, Allowances, blocks_in, EntersBy, EveryAllowance, fed_by, client_hello, server_hello, certificate, CertificateBy, Order4Cases, Order7Cases, long_server, answered}
use Rattle.message_log.specs.Parts.Parts.{last, part}
use Rattle.message_log.specs.Runs.{Call, after, standing_from}
use Rattle.message_log.specs.Runs.Call.{accept}
use Rattle.message_log.specs.declared.state.Log.{Log}
use Rattle.message_log.proofs.Messages.{fine}
use Rattle.message_log.proofs.Heads.{accepted_is}
use Rattle.message_log.proofs.Feeding.{below}
use Rattle.message_log.proofs.Runs.{law}
use Rattle.message_log.proofs.Total.{feed_answered, total}
use Rattle.message_log.proofs.Parts.{leaves_part, progress}

good : (k : ℕ) → 1 ≤ k → k ≤ 256 → bad_allowance k ≡ false
unfolding bad_allowance
good k g l = rw (ne_eqb k 0 (λ e. omega arith), le-ltb 256 k l)

-- no allowance is refused
abbrev Ready : Standing → List ℕ → Told → Type 0
Ready s rest tell = (k : ℕ) → bad_allowance k ≡ false → feed_number s rest k tell ≡ 0

ready_part : (h : History) (p : Part) (rest : List ℕ) (tell : Told) → length rest ≡ left_of p → Ready (parted h p) rest tell
unfolding feed_number first_of
ready_part h p rest tell e k b = rw (b, eq-eqb (length rest) (left_of p) e)

go : (ks : List ℕ) (log : Log) (s : Standing) (rest : List ℕ) (tell : Told) → Stands log s → Ready s rest tell → 1 ≤ length rest
    → length (begun s rest tell).got + length rest ≡ (begun s rest tell).total
    → Allowances ks → length rest ≤ 64 * blocks_in ks → EntersBy log rest tell ks
unfolding Allowances bytes_taken blocks_in
go [] log s rest tell st ready some due a l = absurd (omega arith)
go (k ∷ ks) log s rest tell st ready some due a l =
    let b = good k a.0 a.1 in
    let f : Feeding = record { rest = rest; allowance = k; tell = tell; answer = (feed_answered log s st rest k tell).answer } in
    let t : Taken log f =
    record {
      feeds = (feed_answered log s st rest k tell).feeds;
      done =
          numbered_at (feed_number s rest k tell) (broken_at rest) f.answer.refusal ((feed_answered log s st rest k tell).feeds.refusal s st)
          ∙ ready k b;
    } in
    let n = f.answer.taken in
    by_test (eqb n (length rest))
    (λ e.
    let q : n ≡ length rest = eqb-true n (length rest) e in
    record {
      parts = f ∷ [];
      left = f.answer.log;
      run = last t q;
      taken = append-nil (take n rest) ∙ take_all n rest (omega arith);
      told = refl;
      unused = ks;
      allowances = refl;
    })
    (λ e.
    let q = eqb-false n (length rest) e in
    let w : n ≤ length rest = t.feeds.within in
    let x : length (got_by s rest n tell) ≡ length (begun s rest tell).got + n =
    length-append (begun s rest tell).got (take n rest) ∙ ap (λ (i : ℕ). length (begun s rest tell).got + i) (length-take-le n rest w) in
    let p : Part = record { got = got_by s rest n tell; total = (begun s rest tell).total; tell = (begun s rest tell).tell } in
    let y : length (drop n rest) ≡ length rest - n = length-drop n rest in
    let u = below n (length rest) w q in
    let r =
    go ks f.answer.log (parted (history_of s) p) (drop n rest) tell (leaves_part log s f st t q)
    (ready_part (history_of s) p (drop n rest) tell (y ∙ (omega (arith, x, due, w))))
    (omega (arith, y, u)) (omega (arith, x, y, due, w)) a.2 (omega (arith, y, l, enough k n (length rest) (progress log s f st t) q)) in
    record {
      parts = f ∷ r.parts;
      left = r.left;
      run = part {log' = r.left} {fs = r.parts} t q r.run;
      taken = ap (λ (i : List ℕ). take n rest ++ i) {x = bytes_taken r.parts} r.taken ∙ take-append-drop n rest;
      told = ap (λ (i : List Told). tell ∷ i) {x = map (λ (g : Feeding). g.tell) r.parts} r.told;
      unused = r.unused;
      allowances = ap (λ (i : List ℕ). k ∷ i) {x = map (λ (g : Feeding). g.allowance) r.parts ++ r.unused} r.allowances;
    })
  where
    enough : (k n l : ℕ) → (n ≡ l) ⊎ ((1 ≤ k) × (64 * k ≤ n)) → (n ≡ l → ⊥) → 64 * k ≤ n
    enough k n l (inl e) z = absurd (z e)
    enough k n l (inr e) z = e.1

pub every_allowance : EveryAllowance
unfolding feed_number
every_allowance log h m tell ks st e a l =
    go ks log (whole h) m tell st (λ k b. rw b e) (omega (arith, (fine m (accepted_is h m tell e).shape).shortest)) (omega arith) a l

-- ---- the cases

allowances_of : (n k : ℕ) → 1 ≤ k → k ≤ 256 → Allowances (replicate n k)
unfolding Allowances
allowances_of zero k g l = tt
allowances_of (suc n) k g l = (g, l, allowances_of n k g l)

blocks_of : (n : ℕ) → blocks_in (replicate n 1) ≡ n
unfolding blocks_in
blocks_of zero = refl
blocks_of (suc n) = omega (arith, blocks_of n)

greeting : Told → History
greeting tell = accepted (accepted fresh client_hello (told tell)) server_hello (told tell)

module _ (hash : Algorithm) where
  abbrev tell : Told
  tell = full hash

  -- the certificate is in turn behind both hellos
  certificate_due : accept_number (whole (greeting tell)) certificate tell ≡ 0
  unfolding greeting accept_number first_of overlong misstated cut_off misshapen wrong_body is_finished out_of_turn place_of tells turns is_due look kind_of body_of byte_at pair_at triple_at
  certificate_due = refl

  met : (log : Log) → Stands log (whole fresh) → CertificateBy log tell
  unfolding Allowances blocks_in greeting standing_from after after_accept accept_number first_of overlong misstated cut_off misshapen wrong_body is_finished out_of_turn place_of tells turns is_due look kind_of body_of byte_at pair_at triple_at
  met log st =
      let cs : List Call = accept client_hello tell ∷ accept server_hello tell ∷ [] in
      let r = total log cs st in
      let g : Stands r.left (whole (greeting tell)) = (law log r.left cs st r.run).stands in
      let n : length certificate ≤ 64 * 257 = omega (arith, length-replicate {A = ℕ} 16384 7) in
      record {
        greeted = r.left;
        hellos = r.run;
        ones = every_allowance r.left (greeting tell) certificate tell (replicate 257 1) g certificate_due (allowances_of 257 1 (omega arith) (omega arith)) (omega (arith, n, blocks_of 257));
        most = every_allowance r.left (greeting tell) certificate tell (256 ∷ 256 ∷ []) g certificate_due (allowances_of 2 256 (omega arith) (omega arith)) (omega (arith, n));
        mixed =
            every_allowance r.left (greeting tell) certificate tell (1 ∷ 255 ∷ 16 ∷ []) g certificate_due
            (omega arith, omega arith, (omega arith, omega arith, allowances_of 1 16 (omega arith) (omega arith))) (omega (arith, n));
      }

told_first : (resumes : Bool) (hash : Algorithm) (later : Told)
    → answered (record { resumes = resumes; hash = hash }) later
    ≡ whole (accepted (accepted fresh client_hello (told (full sha_256))) (take 83 long_server ++ replicate 41 9) (told (record { resumes = resumes; hash = hash })))
unfolding standing_from after takes after_feed after_accept feed_number bad_allowance let_in room room_of blocks hashed choice_of accept_number first_of overlong misstated cut_off misshapen wrong_body is_finished out_of_turn place_of tells turns is_due look kind_of body_of byte_at pair_at triple_at
told_first true hash later = refl
told_first false hash later = refl

pub order4_cases : Order4Cases
unfolding fed_by feed_taken feed_blocks blocks_by takes after_feed feed_number bad_allowance let_in room room_of blocks hashed choice_of accept_number first_of overlong misstated cut_off misshapen wrong_body is_finished out_of_turn place_of tells turns is_due look kind_of body_of byte_at pair_at triple_at
order4_cases =
    record { hello = refl; rest = refl; request = refl; told = λ first later. told_first first.resumes first.hash later; met = λ log hash st. met hash log st }

pub order7_cases : Order7Cases
unfolding fed_by feed_taken feed_blocks blocks_by takes after_feed feed_number bad_allowance let_in room room_of blocks hashed choice_of accept_number first_of overlong misstated cut_off misshapen wrong_body is_finished out_of_turn place_of tells turns is_due look kind_of body_of byte_at pair_at triple_at
order7_cases = record { server = refl; longer = refl; with256 = refl; with384 = refl }
