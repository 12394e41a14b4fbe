-- Order 4: a message enters part by part, each by an allowance of hash blocks.
-- Assumes nothing.
use Rattle.std.specs.Prelude.{Bool, not, ◌||◌, List, [], ◌∷◌, ◌++◌, ℕ, eqb, ltb, length, take}
use Rattle.seqs.specs.Pick.{pick}
use Rattle.refusal.specs.First.{first_of}
use Rattle.message.specs.Frame.{kind_of}
use Rattle.transcript.specs.Allowance.{let_in, blocks}
use Rattle.transcript.specs.Choice.{Algorithm}
use Rattle.message_log.specs.Told.{Told}
use Rattle.message_log.specs.History.{choice_of}
use Rattle.message_log.specs.History.History.{accepted}
use Rattle.message_log.specs.History.Beside.{told}
use Rattle.message_log.specs.Standing.{Standing, Part, history_of, entered, left_of}
use Rattle.message_log.specs.Standing.Standing.{whole, parted}
use Rattle.message_log.specs.Calls.{accept_number}

-- 'each call carries an allowance of 1 to 256 hash blocks'
unfoldable pub bad_allowance : ℕ → Bool
bad_allowance k = eqb k 0 || ltb 256 k

-- the message that a rest belongs to: the one between parts, or one that begins with it, of which nothing is taken yet
abbrev pub begun : Standing → List ℕ → Told → Part
begun (whole h) rest tell = record { got = []; total = length rest; tell = tell }
begun (parted h p) rest tell = p

-- 'The 4-byte header, the turn and the whole length are judged before the first byte is taken': a first part lends the whole message, and
-- is judged as the single call judges it. Behind it: '10 for the allowance, or a rest of another length than is due'
unfoldable pub feed_number : Standing → List ℕ → ℕ → Told → ℕ
feed_number (whole h) rest k tell = pick (bad_allowance k) 10 (accept_number (whole h) rest tell)
feed_number (parted h p) rest k tell = first_of ((10, bad_allowance k) ∷ (10, not (eqb (length rest) (left_of p))) ∷ [])

-- 'it takes the smaller of what is left and 64(k+1)-1-h bytes', by order 7 'for each carried hash with its own block, the smaller taking
-- applies'
abbrev pub lets : Standing → List ℕ → ℕ → ℕ
lets s rest k = let_in (choice_of (history_of s)) k (entered s) (length rest)

-- the bytes of the message when the first n of the rest are taken: what was lent before and not taken is of no account
abbrev pub got_by : Standing → List ℕ → ℕ → Told → List ℕ
got_by s rest n tell = (begun s rest tell).got ++ take n rest

-- 'the blocks reported are those the hash definition completes with these bytes', of each hash; 'Type 0 takes no blocks'
unfoldable pub blocks_by : Standing → List ℕ → ℕ → Told → Algorithm → ℕ
blocks_by s rest n tell a = pick (eqb (kind_of (got_by s rest n tell)) 0) 0 (blocks (choice_of (history_of s)) a (entered s) (take n rest))

-- what the log stands for then: where they are the whole rest the message is accepted, told as with its first part
unfoldable pub takes : Standing → List ℕ → ℕ → Told → Standing
takes s rest n tell =
    let p = begun s rest tell in
    pick (eqb n (length rest))
    (whole (accepted (history_of s) (got_by s rest n tell) (told p.tell)))
    (parted (history_of s) (record { got = got_by s rest n tell; total = p.total; tell = p.tell }))

-- the answers, and what the log stands for afterwards; refused, 0 bytes, 0 blocks and as before
unfoldable pub feed_taken : Standing → List ℕ → ℕ → Told → ℕ
feed_taken s rest k tell = pick (eqb (feed_number s rest k tell) 0) (lets s rest k) 0

unfoldable pub feed_blocks : Standing → List ℕ → ℕ → Told → Algorithm → ℕ
feed_blocks s rest k tell a = pick (eqb (feed_number s rest k tell) 0) (blocks_by s rest (lets s rest k) tell a) 0

unfoldable pub after_feed : Standing → List ℕ → ℕ → Told → Standing
after_feed s rest k tell = pick (eqb (feed_number s rest k tell) 0) (takes s rest (lets s rest k) tell) s
