-- What the log's own helpers promise: the steps of a call.
-- Assumes nothing.
use Rattle.std.specs.Prelude.{◌≡◌, true, false, List, ◌++◌, ℕ, ◌≤◌, eqb, length, replicate, ⊤, Option, Result, Ok, Err, IfOk, IfErr, MatchOption}
use Rattle.seqs.specs.Pick.{pick}
use Rattle.refusal.specs.Table.{refusal_of, refusal_at}
use Rattle.refusal.specs.Reason.{number_for, refusal_for, refusal_in}
use Rattle.refusal.specs.declared.reason.Reason.{Reason}
use Rattle.message.specs.Frame.{kind_of, body_of}
use Rattle.transcript.specs.Choice.{Algorithm, Choice, algorithm_by, algorithm_of}
use Rattle.transcript.specs.Choice.Choice.{unchosen, chosen}
use Rattle.transcript.specs.Carries.{Carries, choice_in, digest_of}
use Rattle.transcript.specs.Promise.{Enters}
use Rattle.transcript.specs.declared.Transcript.{Transcript}
use Rattle.seqs.specs.Flag.{yes}
use Rattle.message_log.specs.Told.{Told}
use Rattle.message_log.specs.Suite.{in_field}
use Rattle.message_log.specs.Order.{turns, look, is_due}
use Rattle.message_log.specs.History.{Beside, History, tells, place_of, hashed}
use Rattle.message_log.specs.History.History.{accepted}
use Rattle.message_log.specs.History.Beside.{told, under}
use Rattle.message_log.specs.Standing.{Standing, history_of, between, entered}
use Rattle.message_log.specs.Standing.Standing.{whole}
use Rattle.message_log.specs.Calls.{shape_number, broken_at, accept_number}
use Rattle.message_log.specs.Finish.{finish_number, Checked}
use Rattle.message_log.specs.Feed.{begun, feed_number}
use Rattle.message_log.specs.Stands.{Stands, Unparted, number, hash_number}
use Rattle.message_log.specs.Places.{DueTo}
use Rattle.message_log.specs.Promise.{Finishes}
use Rattle.message_log.specs.declared.order.Due.{Due}
use Rattle.message_log.specs.declared.finish.Carried.{Carried}
use Rattle.message_log.specs.declared.state.Log.{Log}
use Rattle.message_log.specs.declared.state.Turn.{Turn}
use Rattle.message_log.specs.declared.answers.Accepted.{Accepted}
use Rattle.transcript.specs.declared.Blocks.{Blocks}
use Rattle.message_log.specs.declared.answers.Fed.{Fed}
use Rattle.message_log.specs.declared.answers.Expected.{Expected}

-- ---- what a call hands over

-- to the caller: the refusal, or what was done, with the log that is left
abbrev pub answered : Result ⊤ Reason → Log → Accepted
answered r left = record { refusal = refusal_in r; log = left }

abbrev pub none : Blocks
none = record { sha256 = 0; sha384 = 0 }

abbrev pub fed : Result (ℕ × Blocks) Reason → Log → Fed
fed (Ok (taken, blocks)) left = record { refusal = refusal_of 0; log = left; taken = taken; blocks = blocks }
fed (Err reason) left = record { refusal = refusal_for reason; log = left; taken = 0; blocks = none }

abbrev pub expected_by : Result (List ℕ) Reason → Expected
expected_by (Ok value) = record { refusal = refusal_of 0; value = value }
expected_by (Err reason) = record { refusal = refusal_for reason; value = replicate 12 0 }

-- ---- the steps

-- a message by itself: refused, or its type
pub record Judges (m : List ℕ) (r : Result ℕ Reason) : Type 0 where
  pub refusal : refusal_in r ≡ refusal_at (shape_number m) (broken_at m)
  pub kind : IfOk r (λ kind. kind ≡ kind_of m)

-- a message that is in turn: what is known of it before it is taken
pub record InTurn (h : History) (m : List ℕ) (b : Beside) (t : Turn) : Type 0 where
  pub kind : t.kind ≡ kind_of m
  pub hashed : t.kind ≡ 0 → ⊥
  pub place : t.place ≡ number (look (kind_of m) (turns (tells b).resumes (place_of h)))
  pub told : t.sha384 ≡ hash_number (tells b).hash
  pub due : is_due (kind_of m) (turns (tells b).resumes (place_of h)) ≡ true
  pub size : length m ≤ 16388

-- a message that is not refused: a HelloRequest, or one that is in turn, and no Finished
pub record Leads (log : Log) (m : List ℕ) (tell : Told) (t : Option Turn) : Type 0 where
  pub other : kind_of m ≡ 20 → ⊥
  pub well : shape_number m ≡ 0
  pub turn : MatchOption t (kind_of m ≡ 0) (λ turn. (h : History) → Stands log (whole h) → InTurn h m (told tell) turn)

-- what is to be done with a message: its number at its own place, and where that is 0 where it leads
pub record TurnOf (log : Log) (m : List ℕ) (tell : Told) (t : Result (Option Turn) Reason) : Type 0 where
  pub within : (refusal_in t).number ≤ 11
  pub placed : refusal_in t ≡ refusal_at (refusal_in t).number (broken_at m)
  pub number : (s : Standing) → Stands log s → accept_number s m tell ≡ (refusal_in t).number
  pub fed : kind_of m ≡ 20 → (s : Standing) → accept_number s m tell ≡ (refusal_in t).number
  pub leads : IfOk t (Leads log m tell)

-- the rest of a message that is in turn: what is known of both together before any of it is taken
pub record Entering (s : Standing) (rest : List ℕ) (tell : Told) (t : Turn) : Type 0 where
  pub before : entered s ≡ hashed (history_of s) ++ (begun s rest tell).got
  pub total : length ((begun s rest tell).got ++ rest) ≡ (begun s rest tell).total
  pub accepts : accept_number (whole (history_of s)) ((begun s rest tell).got ++ rest) (begun s rest tell).tell ≡ 0
  pub in_turn : InTurn (history_of s) ((begun s rest tell).got ++ rest) (told (begun s rest tell).tell) t

-- the rest of a message that is not refused: a HelloRequest, or the rest of one that is in turn
pub record PartLeads (log : Log) (rest : List ℕ) (k : ℕ) (tell : Told) (t : Option Turn) : Type 0 where
  pub allowed : (1 ≤ k) × (k ≤ 256)
  pub size : length rest ≤ 65535
  pub turn : MatchOption t ((s : Standing) → Stands log s → (between s ≡ false) × (kind_of rest ≡ 0) × (length rest ≡ 4))
      (λ turn. (s : Standing) → Stands log s → Entering s rest tell turn)

-- what is to be done with the rest of a message: its number, and where that is 0 where it leads
pub record PartTurn (log : Log) (rest : List ℕ) (k : ℕ) (tell : Told) (t : Result (Option Turn) Reason) : Type 0 where
  pub within : (refusal_in t).number ≤ 11
  pub placed : refusal_in t ≡ refusal_at (refusal_in t).number (broken_at rest)
  pub number : (s : Standing) → Stands log s → feed_number s rest k tell ≡ (refusal_in t).number
  pub leads : IfOk t (PartLeads log rest k tell)

-- what is carried behind bytes of a message: by a ServerHello that is whole its hash is chosen
pub record CarriedBehind (log : Log) (t : Turn) (left : ℕ) (r : Choice) : Type 0 where
  pub chosen : left ≡ 0 → t.kind ≡ 2 → r ≡ chosen (algorithm_by (yes t.sha384))
  pub stays : (left ≡ 0 → t.kind ≡ 2 → ⊥) → r ≡ choice_in log.hash

-- the log that bytes of a message have entered: left of it are still to come, or none and it is accepted; by a ServerHello that is accepted
-- its hash is chosen, and by a ClientKeyExchange there is a session hash
pub record Entered (log : Log) (bytes : List ℕ) (t : Turn) (left : ℕ) (r : Log) (worked : Algorithm → ℕ) : Type 0 where
  -- the hashes that they have entered
  pub hash : Transcript
  pub enters : Enters log.hash bytes hash worked
  pub client : r.client ≡ log.client
  pub server : r.server ≡ log.server
  pub parted : (left ≡ 0 → ⊥)
      → (r.hash ≡ hash) × (r.place ≡ log.place) × (r.session ≡ log.session) × (r.kind ≡ t.kind) × (r.next ≡ t.place) × (r.sha384 ≡ t.sha384) × (r.left ≡ left)
  pub last : left ≡ 0 → (r.place ≡ t.place) × Unparted r
  pub chooses : left ≡ 0 → t.kind ≡ 2 → (m : List ℕ) → Carries hash unchosen m → Carries r.hash (chosen (algorithm_by (yes t.sha384))) m
  pub stays : left ≡ 0 → (t.kind ≡ 2 → ⊥) → r.hash ≡ hash
  pub session : left ≡ 0 → (c : Choice) (m : List ℕ) → Carries hash c m
      → r.session ≡ pick (eqb t.kind 16) (in_field (digest_of (algorithm_of c) m)) log.session

-- a Finished that is not refused before its value is computed
pub record Asked (log : Log) (secret m : List ℕ) (d : Due) : Type 0 where
  pub sized : length secret ≡ 48
  pub shape : shape_number m ≡ 0
  pub kind : kind_of m ≡ 20
  pub due : (s : Standing) → Stands log s → (between s ≡ false) × DueTo (history_of s) d

-- what is asked of a Finished before its value: refused, or one that is due
pub record Asks (log : Log) (secret m : List ℕ) (r : Result Due Reason) : Type 0 where
  pub within : (refusal_in r).number ≤ 11
  pub placed : refusal_in r ≡ refusal_at (refusal_in r).number (broken_at m)
  pub refused : IfErr r (λ reason. (s : Standing) → Stands log s → finish_number s secret m ≡ number_for reason)
  pub asked : IfOk r (Asked log secret m)

-- the log that has taken a Finished that is due, with this verify_data
abbrev pub Takes : Log → List ℕ → List ℕ → Due → Log → Type 0
Takes log m value due r =
    (h : History) (secret : List ℕ) → Stands log (whole h) → length m ≤ 16388 → DueTo h due → Checked h m secret → body_of m ≡ value
    → Stands r (whole (accepted h m (under secret)))

-- one that is due, and the value that it carries, or refused
pub record Checks (log : Log) (secret m : List ℕ) (r : Result Carried Reason) : Type 0 where
  pub refused : IfErr r (λ reason. Finishes log secret m (record { refusal = refusal_for reason; log = log }))
  pub taken : IfOk r (λ x. (left : Log) → Takes log m x.value x.due left → Finishes log secret m (record { refusal = refusal_of 0; log = left }))
