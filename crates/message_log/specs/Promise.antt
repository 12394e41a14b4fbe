-- What the calls promise. Of every log: that the number is one of the table, that the place is the message's own, that a refused call hands
-- back the very log; of the accepting call and the one for a Finished besides that a Finished is taken by the latter alone. Of a log that
-- stands for something: that the answer is the definition's, and that the next log stands for what the definition says.
-- Assumes nothing.
use Rattle.std.specs.Prelude.{◌≡◌, List, ℕ, ◌≤◌, length, replicate}
use Rattle.refusal.specs.Table.{refusal_at}
use Rattle.refusal.specs.Listed.{Listed}
use Rattle.message.specs.Frame.{kind_of}
use Rattle.transcript.specs.Choice.{Algorithm}
use Rattle.transcript.specs.Promise.{each}
use Rattle.transcript.specs.declared.Blocks.{Blocks}
use Rattle.message_log.specs.Told.{Told}
use Rattle.message_log.specs.Standing.{Standing}
use Rattle.message_log.specs.Calls.{broken_at, accept_number, after_accept, session_hash_of}
use Rattle.message_log.specs.Feed.{feed_number, feed_taken, feed_blocks, after_feed}
use Rattle.message_log.specs.Finish.{finish_number, after_finish, expected_of}
use Rattle.message_log.specs.Stands.{Stands}
use Rattle.message_log.specs.declared.state.Log.{Log}
use Rattle.message_log.specs.declared.answers.Accepted.{Accepted}
use Rattle.message_log.specs.declared.answers.Fed.{Fed}
use Rattle.message_log.specs.declared.answers.SessionHash.{SessionHash}
use Rattle.message_log.specs.declared.answers.Expected.{Expected}

pub record Accepts (log : Log) (m : List ℕ) (tell : Told) (r : Accepted) : Type 0 where
  pub listed : Listed r.refusal
  -- order 9: the place is the message's own, whatever log is passed
  pub placed : r.refusal ≡ refusal_at r.refusal.number (broken_at m)
  pub kept : (r.refusal.number ≡ 0 → ⊥) → r.log ≡ log
  -- 'type 20 fed otherwise is 7', whatever log is passed
  pub fed : kind_of m ≡ 20 → (s : Standing) → r.refusal ≡ refusal_at (accept_number s m tell) (broken_at m)
  pub refusal : (s : Standing) → Stands log s → r.refusal ≡ refusal_at (accept_number s m tell) (broken_at m)
  pub stands : (s : Standing) → Stands log s → Stands r.log (after_accept s m tell)

-- the blocks that an answer reports of a hash
abbrev pub blocks_of : Blocks → Algorithm → ℕ
blocks_of b = each b.sha256 b.sha384

-- order 4's call: the rest of a message that is lent, the allowance, what is told, and the answer with the bytes taken and the blocks worked
pub record Feeds (log : Log) (rest : List ℕ) (k : ℕ) (tell : Told) (r : Fed) : Type 0 where
  pub listed : Listed r.refusal
  -- the place is the message's own, whatever log is passed
  pub placed : r.refusal ≡ refusal_at r.refusal.number (broken_at rest)
  -- refused: the very log, 0 bytes and 0 blocks
  pub kept : (r.refusal.number ≡ 0 → ⊥) → (r.log ≡ log) × (r.taken ≡ 0) × ((a : Algorithm) → blocks_of r.blocks a ≡ 0)
  -- no more than is lent, whatever log is passed
  pub within : r.taken ≤ length rest
  pub refusal : (s : Standing) → Stands log s → r.refusal ≡ refusal_at (feed_number s rest k tell) (broken_at rest)
  pub taken : (s : Standing) → Stands log s → r.taken ≡ feed_taken s rest k tell
  -- order 7: 'both block numbers are reported'
  pub blocks : (s : Standing) → Stands log s → (a : Algorithm) → blocks_of r.blocks a ≡ feed_blocks s rest k tell a
  pub stands : (s : Standing) → Stands log s → Stands r.log (after_feed s rest k tell)

pub record Finishes (log : Log) (secret m : List ℕ) (r : Accepted) : Type 0 where
  pub listed : Listed r.refusal
  -- the message's own, whatever log and secret are passed
  pub placed : r.refusal ≡ refusal_at r.refusal.number (broken_at m)
  pub kept : (r.refusal.number ≡ 0 → ⊥) → r.log ≡ log
  -- nothing else is taken, whatever log is passed
  pub taken : r.refusal.number ≡ 0 → (kind_of m ≡ 20) × (length secret ≡ 48)
  pub refusal : (s : Standing) → Stands log s → r.refusal ≡ refusal_at (finish_number s secret m) (broken_at m)
  pub stands : (s : Standing) → Stands log s → Stands r.log (after_finish s secret m)

pub record Hashes (log : Log) (r : SessionHash) : Type 0 where
  pub listed : Listed r.refusal
  pub nothing : (r.refusal.number ≡ 0 → ⊥) → (r.length ≡ 0) × (r.hash ≡ replicate 48 0)
  -- no more than there are, whatever log is passed
  pub within : r.length ≤ 48
  pub answer : (s : Standing) → Stands log s → r ≡ session_hash_of s

pub record Expects (log : Log) (secret : List ℕ) (r : Expected) : Type 0 where
  pub listed : Listed r.refusal
  pub nothing : (r.refusal.number ≡ 0 → ⊥) → r.value ≡ replicate 12 0
  pub answer : (s : Standing) → Stands log s → r ≡ expected_of s secret
