-- Document 01's orders written out, and a handshake by its types alone: what the table of turns is held to, and with it every history, the
-- calls and every run.
-- Assumes nothing.
use Rattle.std.specs.Prelude.{◌≡◌, Bool, true, false, ◌&&◌, ◌||◌, ◌⊎◌, ℕ, eqb, length}
use mathlib.Core.List.{List, [], ◌∷◌, ◌++◌, Memᴰ}
use Rattle.seqs.specs.Pick.{pick}
use Rattle.message.specs.Frame.{kind_of, body_of}
use Rattle.transcript.specs.Choice.{Algorithm}
use Rattle.transcript.specs.Choice.Choice.{chosen}
use Rattle.message_log.specs.Told.{Told}
use Rattle.message_log.specs.Suite.{width_of}
use Rattle.message_log.specs.Order.{Place, turns, is_due, look, finished_due}
use Rattle.message_log.specs.Order.Place.{beginning, complete_full, complete_resumed}
use Rattle.message_log.specs.History.{History, place_of, choice_of, suite_of, session_hash, exchanged, resumed, complete}
use Rattle.message_log.specs.History.History.{fresh, accepted}
use Rattle.message_log.specs.History.Beside.{told}
use Rattle.message_log.specs.Standing.{Standing, Part, history_of, between, left_of}
use Rattle.message_log.specs.Standing.Standing.{whole, parted}
use Rattle.message_log.specs.Calls.{shape_number, in_order, accept_number, session_number}
use Rattle.message_log.specs.Finish.{expected_value, finish_number, Checked}
use Rattle.message_log.specs.Runs.{Call, number_of, after, standing_from, Run}
use Rattle.message_log.specs.Runs.Call.{accept, finish, feed}
use Rattle.message_log.specs.Stands.{Stands}
use Rattle.message_log.specs.Promise.{Hashes, Expects}
use Rattle.message_log.specs.declared.state.Log.{Log}
use Rattle.message_log.specs.declared.answers.SessionHash.{SessionHash}
use Rattle.message_log.specs.declared.answers.Expected.{Expected}

-- a type that may be there
abbrev pub optional : Bool → ℕ → List ℕ
optional there kind = pick there (kind ∷ []) []

-- '1, 2, optional 11, optional 12, optional 13, 14, then 11 exactly if 13 was seen, 16, 15 allowed once if that second 11 was seen, 20
-- (client), 20 (server)'
abbrev pub full_order : Bool → Bool → Bool → Bool → List ℕ
full_order certificate key_exchange request verify =
    1 ∷ 2 ∷ optional certificate 11 ++ optional key_exchange 12 ++ optional request 13 ++ (14 ∷ []) ++ optional request 11 ++ (16 ∷ [])
    ++ optional (pick request verify false) 15 ++ (20 ∷ 20 ∷ [])

-- the full orders, and where it resumes '1, 2, 20 (server), 20 (client)'
abbrev pub orders : Bool → List (List ℕ)
orders false =
    full_order true true true true ∷ full_order true true true false ∷ full_order true true false false
    ∷ full_order true false true true ∷ full_order true false true false ∷ full_order true false false false
    ∷ full_order false true true true ∷ full_order false true true false ∷ full_order false true false false
    ∷ full_order false false true true ∷ full_order false false true false ∷ full_order false false false false ∷ []
orders true = (1 ∷ 2 ∷ 20 ∷ 20 ∷ []) ∷ []

-- the types begin one of them
abbrev pub Begins : Bool → List ℕ → Type 0
Begins resumes l = (rest : List ℕ) × Memᴰ (l ++ rest) (orders resumes)

-- where messages of these types lead, one after the other
unfoldable pub walk : Bool → Place → List ℕ → Place
walk resumes p [] = p
walk resumes p (kind ∷ rest) = walk resumes (look kind (turns resumes p)) rest

-- is each of them in turn?
unfoldable pub walks : Bool → Place → List ℕ → Bool
walks resumes p [] = true
walks resumes p (kind ∷ rest) = is_due kind (turns resumes p) && walks resumes (look kind (turns resumes p)) rest

-- where an order ends
abbrev pub Ended : Place → Type 0
Ended p = (p ≡ complete_full) ⊎ (p ≡ complete_resumed)

-- the table of turns completes these orders and no others, and takes what begins one of them and nothing else
pub record Orderly (resumes : Bool) : Type 0 where
  pub every : (l : List ℕ) → Memᴰ l (orders resumes) → Ended (walk resumes beginning l)
  pub only : (l : List ℕ) → Ended (walk resumes beginning l) → Memᴰ l (orders resumes)
  pub along : (l : List ℕ) → Begins resumes l → walks resumes beginning l ≡ true
  pub begins : (l : List ℕ) → walks resumes beginning l ≡ true → Begins resumes l

-- the types of the accepted messages, the latest last; type 0 'is accepted anywhere' and is left out
unfoldable pub types_of : History → List ℕ
types_of fresh = []
types_of (accepted h m b) = pick (eqb (kind_of m) 0) (types_of h) (types_of h ++ (kind_of m ∷ []))

-- the same of a history, by what it was told: each message was in turn exactly if the types begin an order, and then both Finished are taken
-- exactly if they are one
pub record Ordered (h : History) : Type 0 where
  pub along : Begins (resumed h) (types_of h) → in_order h ≡ true
  pub begins : in_order h ≡ true → Begins (resumed h) (types_of h)
  pub every : in_order h ≡ true → Memᴰ (types_of h) (orders (resumed h)) → complete h ≡ true
  pub only : in_order h ≡ true → complete h ≡ true → Memᴰ (types_of h) (orders (resumed h))
  -- the session hash: 'in a resumed log, it is 7'
  pub unhashed : in_order h ≡ true → resumed h ≡ true → session_number (whole h) ≡ 7

-- Over both calls, on a history in order; the call by allowance judges a first part as the accepting one does. The accepting call takes a well-formed message exactly if its type leads on along an order and is
-- not 20; the joined call takes type 20 exactly if that leads on and the value is the expected one.
pub record BothCalls (h : History) : Type 0 where
  pub accepts : (m : List ℕ) (tell : Told) → shape_number m ≡ 0 → (kind_of m ≡ 20 → ⊥)
      → Begins (resumed (accepted h m (told tell))) (types_of (accepted h m (told tell))) → accept_number (whole h) m tell ≡ 0
  pub accepts_only : (m : List ℕ) (tell : Told) → accept_number (whole h) m tell ≡ 0
      → (kind_of m ≡ 20 → ⊥) × Begins (resumed (accepted h m (told tell))) (types_of (accepted h m (told tell)))
  pub finishes : (secret m : List ℕ) → length secret ≡ 48 → shape_number m ≡ 0 → kind_of m ≡ 20 → body_of m ≡ expected_value h secret
      → Begins (resumed h) (types_of h ++ (20 ∷ [])) → finish_number (whole h) secret m ≡ 0
  pub finishes_only : (secret m : List ℕ) → finish_number (whole h) secret m ≡ 0
      → Checked h m secret × Begins (resumed h) (types_of h ++ (20 ∷ []))

-- By the contracts alone: after every list of calls from a fresh log the types of the accepted messages begin an order, both Finished are
-- taken exactly if they are one, and the next call answers so; between parts the message leads on along an order, whatever its rest will be.
pub record OrderedBy (s : Standing) : Type 0 where
  pub begins : Begins (resumed (history_of s)) (types_of (history_of s))
  pub every : Memᴰ (types_of (history_of s)) (orders (resumed (history_of s))) → complete (history_of s) ≡ true
  pub only : complete (history_of s) ≡ true → Memᴰ (types_of (history_of s)) (orders (resumed (history_of s)))
  pub calls : between s ≡ false → BothCalls (history_of s)
  pub parted : (p : Part) → s ≡ parted (history_of s) p → (rest : List ℕ) → length rest ≡ left_of p
      → Begins (resumed (accepted (history_of s) (p.got ++ rest) (told p.tell))) (types_of (accepted (history_of s) (p.got ++ rest) (told p.tell)))

abbrev pub OrderedRuns : Type 0
OrderedRuns =
    (log log' : Log) (cs : List Call) → Stands log (whole fresh) → Run log cs log' → OrderedBy (standing_from (whole fresh) cs)

-- each call is answered 0
unfoldable pub AllTaken : Standing → List Call → Type 0
AllTaken s [] = Unit {0}
AllTaken s (c ∷ cs) = (number_of s c ≡ 0) × AllTaken (after s c) cs

-- the joined call is handed this secret, wherever it is called
unfoldable pub Under : List ℕ → List Call → Type 0
Under secret [] = Unit {0}
Under secret (accept m tell ∷ cs) = Under secret cs
Under secret (finish other m ∷ cs) = (other ≡ secret) × Under secret cs
Under secret (feed rest k tell ∷ cs) = Under secret cs

-- And every order is completed with either hash, under any secret of 48 bytes, by calls that are all answered 0.
pub record Completed (tell : Told) (l secret : List ℕ) : Type 0 where
  pub calls : List Call
  pub taken : AllTaken (whole fresh) calls
  pub under : Under secret calls
  pub types : types_of (history_of (standing_from (whole fresh) calls)) ≡ l
  pub told : resumed (history_of (standing_from (whole fresh) calls)) ≡ tell.resumes
  pub hash : choice_of (history_of (standing_from (whole fresh) calls)) ≡ chosen tell.hash
  pub complete : complete (history_of (standing_from (whole fresh) calls)) ≡ true

abbrev pub EveryOrder : Type 0
EveryOrder = (tell : Told) (l secret : List ℕ) → length secret ≡ 48 → Memᴰ l (orders tell.resumes) → Completed tell l secret

-- Order 7: where the session hash is given or a Finished is due, one of the hashes is chosen. The proof is proofs/Chosen.antt.
pub record Chosen (h : History) : Type 0 where
  pub hash : Algorithm
  pub made : choice_of h ≡ chosen hash

abbrev pub ChoiceMade : Type 0
ChoiceMade = (h : History) → in_order h ≡ true → (exchanged h || finished_due (place_of h)) ≡ true → Chosen h

-- And the session hash is as wide as that hash: 32 or 48 bytes. The proof is there too.
abbrev pub SessionWidth : Type 0
SessionWidth = (h : History) → in_order h ≡ true → exchanged h ≡ true → length (session_hash h) ≡ width_of (suite_of h)

-- Both of what the calls ensure: whoever is given a session hash or a Finished value has chosen, and of the former there are so many bytes.
-- The proof is proofs/Asking.antt.
pub record GivenByChosen (log : Log) (s : Standing) : Type 0 where
  pub session : (r : SessionHash) → Hashes log r → r.refusal.number ≡ 0 → Chosen (history_of s) × (r.length ≡ width_of (suite_of (history_of s)))
  pub expected : (secret : List ℕ) (r : Expected) → Expects log secret r → r.refusal.number ≡ 0 → Chosen (history_of s)

abbrev pub GivenChosen : Type 0
GivenChosen = (log : Log) (s : Standing) → Stands log s → GivenByChosen log s
