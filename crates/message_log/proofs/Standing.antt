-- What each step keeps of `Stands`: a log that is fresh, that has accepted a HelloRequest, or that bytes of a message have entered.
-- Assumes nothing.
use mathlib.Core.Path.{◌≡◌, refl, ◌∙◌, ap, subst}
use mathlib.Core.Bool.{Bool, true, false, ◌&&◌}
use mathlib.Core.List.{List, [], ◌++◌, append_assoc}
use Prim.Native.Nat.{ℕ, ◌+◌, ◌≤◌}
use native.Mathlib.Omega.{arith}
use lib.Dec.{eqb}
use lib.ListN.{length, replicate, length-append}
use borrow.Author.Tests.{ne_eqb}
use Rattle.seqs.specs.Pick.{pick}
use Rattle.message.specs.Frame.{kind_of, body_of}
use Rattle.sha256.specs.Running.{most}
use Rattle.transcript.specs.Choice.{Algorithm}
use Rattle.transcript.specs.Choice.Choice.{unchosen}
use Rattle.transcript.specs.Carries.{Carries, digest_of}
use Rattle.transcript.specs.Promise.{Enters}
use Rattle.transcript.specs.declared.Transcript.{Transcript}
use Rattle.message_log.specs.Told.{Told}
use Rattle.message_log.specs.Suite.{in_field}
use Rattle.message_log.specs.History.{Beside, History, tells, place_of, hashed, choice_of, suite_of, session_hash, is_from, verify_data_of}
use Rattle.message_log.specs.History.History.{fresh, accepted}
use Rattle.message_log.specs.History.Beside.{told}
use Rattle.message_log.specs.History.Side.{client, server}
use Rattle.message_log.specs.Standing.{Standing, history_of, between, entered}
use Rattle.message_log.specs.Standing.Standing.{whole, parted}
use Rattle.message_log.specs.Calls.{out_of_turn, in_order}
use Rattle.message_log.specs.Finish.{Compared}
use Rattle.message_log.specs.Stands.{Stands, Unparted, number}
use Rattle.message_log.specs.Steps.{InTurn}
use Rattle.message_log.specs.declared.state.Log.{Log}
use Rattle.message_log.specs.declared.state.Turn.{Turn}
use Rattle.message_log.proofs.Turns.{turned}

pub fresh_stands : (hash : Transcript) → Carries hash unchosen []
    → Stands (record { hash = hash; place = 0; session = replicate 48 0; client = replicate 12 0; server = replicate 12 0; kind = 0; next = 0; sha384 = 0; left = 0 }) (whole fresh)
unfolding place_of hashed choice_of number in_order session_hash verify_data_of Compared
fresh_stands hash r =
    record {
      place = record { number = refl; order = refl };
      hash = r;
      short = omega arith;
      session = refl;
      client = refl;
      server = refl;
      compared = tt;
      part = record { kind = refl; next = refl; sha384 = refl; left = refl };
    }

-- a log that has accepted a HelloRequest is as it was
pub request_stands : (log : Log) (h : History) (m : List ℕ) (tell : Told) → Stands log (whole h) → kind_of m ≡ 0
    → Stands log (whole (accepted h m (told tell)))
unfolding place_of hashed choice_of out_of_turn in_order session_hash verify_data_of Compared
request_stands log h m tell s k =
    record {
      place = record { number = rw k s.place.number; order = rw k s.place.order };
      hash = rw k s.hash;
      short = rw k s.short;
      session = rw k s.session;
      client = rw k s.client;
      server = rw k s.server;
      compared = (λ e. omega (arith, k, e), s.compared);
      part = s.part;
    }

-- where no byte is left there is no message between parts
pub by_whole : (log : Log) → log.left ≡ 0 → (P : Standing → Type 0) → ((h : History) → Stands log (whole h) → P (whole h))
    → (s : Standing) → Stands log s → P s
by_whole log e P f (whole h) st = f h st
by_whole log e P f (parted h p) st = absurd (omega (arith, e, st.part.left, st.part.some))

-- and where some are there is one
pub by_parted : (log : Log) → (log.left ≡ 0 → ⊥) → (s : Standing) → Stands log s → between s ≡ true
by_parted log e (whole h) st = absurd (e st.part.left)
by_parted log e (parted h p) st = refl

-- bytes behind those that were taken of a message
module _ (log : Log) (s : Standing) (got bytes : List ℕ) (st : Stands log s) (e : entered s ≡ hashed (history_of s) ++ got)
    (size : length (got ++ bytes) ≤ 16388) (far : length (hashed (history_of s)) ≤ 262208) where
  -- each hash is far from its bound
  pub room : length (entered s) + length bytes ≤ most
  room =
      let n : length (entered s) ≡ length (hashed (history_of s)) + length got = ap length e ∙ length-append (hashed (history_of s)) got in
      omega (arith, n, length-append got bytes)

  pub carried : (r : Transcript) (worked : Algorithm → ℕ) → Enters log.hash bytes r worked
      → Carries r (choice_of (history_of s)) (hashed (history_of s) ++ (got ++ bytes))
  carried r worked x =
      subst (Carries r (choice_of (history_of s))) (ap (λ (l : List ℕ). l ++ bytes) e ∙ append_assoc (hashed (history_of s)) got bytes) (x.carries (choice_of (history_of s)) (entered s) st.hash room)

module _ (log : Log) (s : Standing) (m : List ℕ) (b : Beside) (turn : Turn) (st : Stands log s) (t : InTurn (history_of s) m b turn) where
  other : eqb (kind_of m) 0 ≡ false
  other = ne_eqb (kind_of m) 0 (λ e. t.hashed (t.kind ∙ e))

  pub far : length (hashed (history_of s)) ≤ 262208
  far = let u = turned (tells b).resumes (place_of (history_of s)) (kind_of m) t.due in omega (arith, st.short, u.rises, u.most)

  -- a log that has taken a message
  pub taking_stands : (r : Log) → Carries r.hash (choice_of (accepted (history_of s) m b)) (hashed (history_of s) ++ m) → r.place ≡ turn.place
      → r.session ≡ pick (eqb turn.kind 16) (in_field (digest_of (suite_of (history_of s)) (hashed (history_of s) ++ m))) log.session
      → r.client ≡ pick (eqb turn.kind 20 && is_from client (history_of s)) (body_of m) log.client
      → r.server ≡ pick (eqb turn.kind 20 && is_from server (history_of s)) (body_of m) log.server
      → Unparted r
      → Compared (accepted (history_of s) m b)
      → Stands r (whole (accepted (history_of s) m b))
  unfolding place_of hashed out_of_turn in_order session_hash verify_data_of
  taking_stands r x q e f g u c =
      record {
        place = record { number = rw other (q ∙ t.place); order = rw (other, t.due) st.place.order };
        hash = rw other x;
        short = rw (other, length-append) (omega (arith, st.short, (turned (tells b).resumes (place_of (history_of s)) (kind_of m) t.due).rises, t.size));
        session = e ∙ (rw (t.kind, st.session)) ∙ picked (eqb (kind_of m) 16);
        client = f ∙ (rw (t.kind, st.client));
        server = g ∙ (rw (t.kind, st.server));
        compared = c;
        part = u;
      }
    where
      -- a field of either
      picked : (z : Bool)
          → pick z (in_field (digest_of (suite_of (history_of s)) (hashed (history_of s) ++ m))) (in_field (session_hash (history_of s)))
          ≡ in_field (pick z (digest_of (suite_of (history_of s)) (hashed (history_of s) ++ m)) (session_hash (history_of s)))
      picked true = refl
      picked false = refl
