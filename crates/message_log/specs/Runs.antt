-- Order 6's law, over every list of calls: a log that the calls make holds no Finished that was not checked, so that completion writes
-- checked values alone. The proofs are proofs/Runs.antt and, that there is a run for every list, proofs/Total.antt.
-- Assumes nothing.
use Rattle.std.specs.Prelude.{◌≡◌, true, List, [], ◌∷◌, ℕ}
use Rattle.message.specs.Frame.{body_of}
use Rattle.message_log.specs.Told.{Told}
use Rattle.message_log.specs.History.{Beside, History, Side, is_from, complete, verify_data_of}
use Rattle.message_log.specs.History.History.{fresh, accepted}
use Rattle.message_log.specs.History.Beside.{under}
use Rattle.message_log.specs.Standing.{Standing, history_of}
use Rattle.message_log.specs.Standing.Standing.{whole}
use Rattle.message_log.specs.Calls.{accept_number, after_accept}
use Rattle.message_log.specs.Finish.{finish_number, after_finish, Checked, Compared}
use Rattle.message_log.specs.Feed.{feed_number, after_feed}
use Rattle.message_log.specs.Stands.{Stands}
use Rattle.message_log.specs.Promise.{Accepts, Finishes, Feeds}
use Rattle.message_log.specs.declared.state.Log.{Log}
use Rattle.message_log.specs.declared.answers.Accepted.{Accepted}
use Rattle.message_log.specs.declared.answers.Fed.{Fed}

-- the calls that hand back a log, with what they are handed beside it
pub data Call : Type 0 where
  accept : List ℕ → Told → Call
  finish : List ℕ → List ℕ → Call
  feed : List ℕ → ℕ → Told → Call

-- what the definitions answer, and what the log stands for after it
unfoldable pub number_of : Standing → Call → ℕ
number_of s (accept m tell) = accept_number s m tell
number_of s (finish secret m) = finish_number s secret m
number_of s (feed rest k tell) = feed_number s rest k tell

unfoldable pub after : Standing → Call → Standing
after s (accept m tell) = after_accept s m tell
after s (finish secret m) = after_finish s secret m
after s (feed rest k tell) = after_feed s rest k tell

unfoldable pub standing_from : Standing → List Call → Standing
standing_from s [] = s
standing_from s (c ∷ cs) = standing_from (after s c) cs

-- One call on a log: the log passed, the call, and the log afterwards. The premises are what the contracts of the three calls ensure, and
-- nothing else.
pub data Step : Log → Call → Log → Type 0 where
  accepting : {log : Log} {m : List ℕ} {tell : Told} {r : Accepted} → Accepts log m tell r → Step log (accept m tell) r.log
  finishing : {log : Log} {secret m : List ℕ} {r : Accepted} → Finishes log secret m r → Step log (finish secret m) r.log
  feeding : {log : Log} {rest : List ℕ} {k : ℕ} {tell : Told} {r : Fed} → Feeds log rest k tell r → Step log (feed rest k tell) r.log

-- each call gets the log that the one before it handed back
pub data Run : Log → List Call → Log → Type 0 where
  done : {log : Log} → Run log [] log
  next : {log log' log'' : Log} {c : Call} {cs : List Call} → Step log c log' → Run log' cs log'' → Run log (c ∷ cs) log''

-- h is g, or went on from it
pub data From (g : History) : History → Type 0 where
  here : From g g
  later : {h : History} {m : List ℕ} {b : Beside} → From g h → From g (accepted h m b)

-- A side's value came with its Finished: at that moment it was what was expected, under the secret that was handed in with the message.
pub record Came (side : Side) (h : History) (value : List ℕ) : Type 0 where
  pub before : History
  pub message : List ℕ
  pub secret : List ℕ
  pub from : From (accepted before message (under secret)) h
  pub own : is_from side before ≡ true
  pub checked : Checked before message secret
  pub carried : value ≡ body_of message

-- of a log that calls made, and of what the definitions say that these calls lead to
pub record Law (log : Log) (s : Standing) : Type 0 where
  -- the log stands for it: what the contracts of all calls speak of
  pub stands : Stands log s
  -- each Finished that was accepted carried the expected value of its moment
  pub compared : Compared (history_of s)
  -- and where both are taken, so did those that the two values came with
  pub came : complete (history_of s) ≡ true → (side : Side) → Came side (history_of s) (verify_data_of side (history_of s))

-- every list of calls from a fresh log, refused ones included, with whatever arguments, in whatever order
abbrev pub Theorem : Type 0
Theorem = (log log' : Log) (cs : List Call) → Stands log (whole fresh) → Run log cs log' → Law log' (standing_from (whole fresh) cs)

-- It speaks of every list, and not only of those that happen to have a run: from a fresh log every list of calls has one.
pub record Ran (log : Log) (cs : List Call) : Type 0 where
  pub left : Log
  pub run : Run log cs left

abbrev pub Total : Type 0
Total = (log : Log) (cs : List Call) → Stands log (whole fresh) → Ran log cs
