-- Order 4's theorem: a message that enters part by part gives the very log that the single call gives on the bytes taken. The proof is
-- proofs/Parts.antt, and that there is such a run for every list of allowances proofs/Allowing.antt.
-- Assumes nothing.
use Rattle.std.specs.Prelude.{◌≡◌, true, false, ◌⊎◌, List, [], ◌∷◌, ◌++◌, map, ℕ, ◌+◌, ◌*◌, ◌≤◌, eqb, length, take, drop, replicate}
use Rattle.seqs.specs.Pick.{pick}
use Rattle.refusal.specs.Table.{refusal_of}
use Rattle.message.specs.Frame.{kind_of}
use Rattle.transcript.specs.Choice.{Algorithm}
use Rattle.transcript.specs.Choice.Algorithm.{sha_256, sha_384}
use Rattle.transcript.specs.Allowance.{blocks}
use Rattle.message_log.specs.Told.{Told, full}
use Rattle.message_log.specs.History.{History, hashed, choice_of, complete}
use Rattle.message_log.specs.History.History.{fresh, accepted}
use Rattle.message_log.specs.History.Beside.{told}
use Rattle.message_log.specs.Standing.{Standing, Part, history_of, between}
use Rattle.message_log.specs.Standing.Standing.{whole, parted}
use Rattle.message_log.specs.Calls.{shape_number, accept_number}
use Rattle.message_log.specs.Feed.{feed_taken, feed_blocks, after_feed}
use Rattle.message_log.specs.Stands.{Stands}
use Rattle.message_log.specs.Promise.{Accepts, Finishes, Feeds, Hashes, Expects, blocks_of}
use Rattle.message_log.specs.Runs.{Run, standing_from}
use Rattle.message_log.specs.Runs.Call.{accept, feed}
use Rattle.message_log.specs.declared.state.Log.{Log}
use Rattle.message_log.specs.declared.answers.Accepted.{Accepted}
use Rattle.message_log.specs.declared.answers.Fed.{Fed}
use Rattle.message_log.specs.declared.answers.SessionHash.{SessionHash}
use Rattle.message_log.specs.declared.answers.Expected.{Expected}

-- a call by allowance: what it was handed beside the log, and its answer
pub record Feeding : Type 0 where
  pub rest : List ℕ
  pub allowance : ℕ
  pub tell : Told
  pub answer : Fed

-- the answer is one that the contract ensures on this log, and no refusal
pub record Taken (log : Log) (f : Feeding) : Type 0 where
  pub feeds : Feeds log f.rest f.allowance f.tell f.answer
  pub done : f.answer.refusal.number ≡ 0

-- 'Any run of allowances that ends the message': none is refused, each call gets the log that the one before it handed back, and the last
-- one, and no other, takes all of its rest. What is lent again of an earlier rest need not be what was lent before.
pub data Parts : Log → List Feeding → Log → Type 0 where
  last : {log : Log} {f : Feeding} → Taken log f → f.answer.taken ≡ length f.rest → Parts log (f ∷ []) f.answer.log
  part : {log log' : Log} {f : Feeding} {fs : List Feeding} → Taken log f → (f.answer.taken ≡ length f.rest → ⊥)
      → Parts f.answer.log fs log' → Parts log (f ∷ fs) log'

-- 'the bytes taken', and the blocks reported of a hash, of all calls together
unfoldable pub bytes_taken : List Feeding → List ℕ
bytes_taken [] = []
bytes_taken (f ∷ fs) = take f.answer.taken f.rest ++ bytes_taken fs

unfoldable pub blocks_worked : List Feeding → Algorithm → ℕ
blocks_worked [] a = 0
blocks_worked (f ∷ fs) a = blocks_of f.answer.blocks a + blocks_worked fs a

-- 'gives the log that the single call gives on the bytes taken': m, told as with the first part, behind the history h
pub record AsOne (log log' : Log) (h : History) (m : List ℕ) (tell : Told) (count : Algorithm → ℕ) : Type 0 where
  -- the single call accepts them
  pub accepts : accept_number (whole h) m tell ≡ 0
  -- and its log is this very value
  pub same : (r : Accepted) → Accepts log m tell r → r.log ≡ log'
  pub stands : Stands log' (whole (accepted h m (told tell)))
  -- the blocks of each hash are those that its definition completes with them, '0 for a hash not carried'; 'Type 0 takes no blocks'
  pub worked : (a : Algorithm) → count a ≡ pick (eqb (kind_of m) 0) 0 (blocks (choice_of h) a (hashed h) m)

abbrev pub PartByPart : Type 0
PartByPart =
    (log log' : Log) (h : History) (f : Feeding) (fs : List Feeding) → Stands log (whole h) → Parts log (f ∷ fs) log'
    → AsOne log log' h (bytes_taken (f ∷ fs)) f.tell (blocks_worked (f ∷ fs))

-- Every call that is not refused takes all of its rest, or at least as many bytes as the allowed blocks have: so every run ends.
abbrev pub Progress : Type 0
Progress =
    (log : Log) (s : Standing) (f : Feeding) → Stands log s → Taken log f
    → (f.answer.taken ≡ length f.rest) ⊎ ((1 ≤ f.allowance) × (64 * f.allowance ≤ f.answer.taken))

-- 'Order 4's allowance holds for each carried hash': a call works no more blocks of either than it is allowed.
abbrev pub WithinAllowance : Type 0
WithinAllowance =
    (log : Log) (s : Standing) (f : Feeding) → Stands log s → Taken log f → (a : Algorithm) → blocks_of f.answer.blocks a ≤ f.allowance

-- all of these are allowances
unfoldable pub Allowances : List ℕ → Type 0
Allowances [] = Unit {0}
Allowances (k ∷ ks) = (1 ≤ k) × (k ≤ 256) × Allowances ks

-- so many blocks in all
unfoldable pub blocks_in : List ℕ → ℕ
blocks_in [] = 0
blocks_in (k ∷ ks) = k + blocks_in ks

-- the message m enters by the first of these allowances
pub record EntersBy (log : Log) (m : List ℕ) (tell : Told) (ks : List ℕ) : Type 0 where
  pub parts : List Feeding
  pub left : Log
  pub run : Parts log parts left
  pub taken : bytes_taken parts ≡ m
  -- told so with each
  pub told : map (λ (f : Feeding). f.tell) parts ≡ replicate (length parts) tell
  pub unused : List ℕ
  pub allowances : map (λ (f : Feeding). f.allowance) parts ++ unused ≡ ks

-- The theorem speaks of every list of allowances, and not only of those that happen to have a run: a message that the single call accepts
-- enters by any of them, if the blocks that they allow have as many bytes in all as the message.
abbrev pub EveryAllowance : Type 0
EveryAllowance =
    (log : Log) (h : History) (m : List ℕ) (tell : Told) (ks : List ℕ)
    → Stands log (whole h) → accept_number (whole h) m tell ≡ 0 → Allowances ks → length m ≤ 64 * blocks_in ks → EntersBy log m tell ks

-- A log with both Finished taken is never between parts. The proof is proofs/Asking.antt.
abbrev pub DoneIsWhole : Type 0
DoneIsWhole = (log : Log) (s : Standing) → Stands log s → complete (history_of s) ≡ true → between s ≡ false

-- '7 for another log call between parts', of what the calls ensure, where nothing of a higher rank refuses; and the log stays. (Completion:
-- `NotBetween` of the crate `gateway`.)
pub record Others (log : Log) : Type 0 where
  pub accepts : (m : List ℕ) (tell : Told) (r : Accepted) → Accepts log m tell r → shape_number m ≡ 0
      → (r.refusal ≡ refusal_of 7) × (r.log ≡ log)
  pub finishes : (secret m : List ℕ) (r : Accepted) → Finishes log secret m r → length secret ≡ 48 → shape_number m ≡ 0
      → (r.refusal ≡ refusal_of 7) × (r.log ≡ log)
  pub expects : (secret : List ℕ) (r : Expected) → Expects log secret r → length secret ≡ 48 → r.refusal ≡ refusal_of 7
  pub hashes : (r : SessionHash) → Hashes log r → r.refusal ≡ refusal_of 7

abbrev pub OnlyTheNext : Type 0
OnlyTheNext = (log : Log) (h : History) (p : Part) → Stands log (parted h p) → Others log

-- ---- cases

-- what the definitions say of a message that is fed by these allowances: the bytes taken and the blocks of either hash worked by each call
unfoldable pub fed_by : Standing → List ℕ → List ℕ → List (ℕ × ℕ × ℕ)
fed_by s rest [] = []
fed_by s rest (k ∷ ks) =
    (feed_taken s rest k (full sha_256), feed_blocks s rest k (full sha_256) sha_256, feed_blocks s rest k (full sha_256) sha_384)
    ∷ fed_by (after_feed s rest k (full sha_256)) (drop (feed_taken s rest k (full sha_256)) rest) ks

abbrev pub client_hello : List ℕ
client_hello = 1 ∷ 0 ∷ 1 ∷ 40 ∷ replicate 296 7

abbrev pub server_hello : List ℕ
server_hello = 2 ∷ 0 ∷ 0 ∷ 38 ∷ replicate 38 7

-- 16 KiB of body, the most that a message has
abbrev pub certificate : List ℕ
certificate = 11 ∷ 0 ∷ 64 ∷ 0 ∷ replicate 16384 7

-- a log that has accepted both hellos, and the certificate by allowances of 1, of 256 and of a mix
pub record CertificateBy (log : Log) (tell : Told) : Type 0 where
  pub greeted : Log
  pub hellos : Run log (accept client_hello tell ∷ accept server_hello tell ∷ []) greeted
  pub ones : EntersBy greeted certificate tell (replicate 257 1)
  pub most : EntersBy greeted certificate tell (256 ∷ 256 ∷ [])
  pub mixed : EntersBy greeted certificate tell (1 ∷ 255 ∷ 16 ∷ [])

-- a ServerHello of 124 bytes behind the ClientHello, by allowances of 1: 83 bytes and then 41, other ones than were lent before
abbrev pub long_server : List ℕ
long_server = 2 ∷ 0 ∷ 0 ∷ 120 ∷ replicate 120 7

abbrev pub answered : Told → Told → Standing
answered first later = standing_from (whole fresh) (accept client_hello (full sha_256) ∷ feed long_server 1 first ∷ feed (replicate 41 9) 1 later ∷ [])

pub record Order4Cases : Type 0 where
  -- from empty by allowances of 1: 127, 64, 64 and 45 bytes, a block of SHA-256 each; of SHA-384's 300 bytes complete two
  pub hello : fed_by (whole fresh) client_hello (1 ∷ 1 ∷ 1 ∷ 1 ∷ []) ≡ (127, 1, 0) ∷ (64, 1, 1) ∷ (64, 1, 0) ∷ (45, 1, 1) ∷ []
  -- by 2, and then by as much as there is
  pub rest : fed_by (whole fresh) client_hello (2 ∷ 256 ∷ []) ≡ (191, 2, 1) ∷ (109, 2, 1) ∷ []
  -- type 0 takes no blocks
  pub request : fed_by (whole fresh) (0 ∷ 0 ∷ 0 ∷ 0 ∷ []) (1 ∷ []) ≡ (4, 0, 0) ∷ []
  -- what is told with a ServerHello's first part counts, and of the bytes those that are taken
  pub told : (first later : Told)
      → answered first later ≡ whole (accepted (accepted fresh client_hello (told (full sha_256))) (take 83 long_server ++ replicate 41 9) (told first))
  pub met : (log : Log) (hash : Algorithm) → Stands log (whole fresh) → CertificateBy log (full hash)

-- behind a ClientHello of 300 bytes and a ServerHello of 42 that told this hash: 342 bytes, of which 22 wait for a block of SHA-256 and 86
-- for one of SHA-384
abbrev pub greeted : Algorithm → History
greeted hash = accepted (accepted fresh client_hello (told (full sha_256))) server_hello (told (full hash))

-- 500 bytes
abbrev pub short_certificate : List ℕ
short_certificate = 11 ∷ 0 ∷ 1 ∷ 240 ∷ replicate 496 7

pub record Order7Cases : Type 0 where
  -- 'until that is taken whole the log carries both': of 83 and 41 bytes of a ServerHello the second part still completes a block of each, and
  -- of a longer one both parts do
  pub server : fed_by (whole (accepted fresh client_hello (told (full sha_256)))) long_server (1 ∷ 1 ∷ []) ≡ (83, 1, 0) ∷ (41, 1, 1) ∷ []
  pub longer : fed_by (whole (accepted fresh client_hello (told (full sha_256)))) (2 ∷ 0 ∷ 0 ∷ 248 ∷ replicate 248 7) (2 ∷ 2 ∷ []) ≡ (147, 2, 1) ∷ (105, 2, 1) ∷ []
  -- and then the chosen one alone, with its own block
  pub with256 : fed_by (whole (greeted sha_256)) short_certificate (1 ∷ 2 ∷ 256 ∷ []) ≡ (105, 1, 0) ∷ (128, 2, 0) ∷ (267, 5, 0) ∷ []
  pub with384 : fed_by (whole (greeted sha_384)) short_certificate (1 ∷ 2 ∷ 256 ∷ []) ≡ (169, 0, 1) ∷ (256, 0, 2) ∷ (75, 0, 1) ∷ []
