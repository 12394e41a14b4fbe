-- What a log stands for: its history and, between the parts of a message, that message (document 02, order 4).
-- Assumes nothing.
use Rattle.std.specs.Prelude.{Bool, true, false, List, ◌++◌, ℕ, ◌-◌, length}
use Rattle.message_log.specs.Told.{Told}
use Rattle.message_log.specs.History.{History, hashed}

-- A message that has begun to enter: the bytes that were taken of it, how many there are in all, and what was told with the first part.
pub record Part : Type 0 where
  pub got : List ℕ
  pub total : ℕ
  pub tell : Told

pub data Standing : Type 0 where
  whole : History → Standing
  -- between the parts of a message
  parted : History → Part → Standing

-- the messages that were accepted; one that is between parts is not
abbrev pub history_of : Standing → History
history_of (whole h) = h
history_of (parted h p) = h

abbrev pub between : Standing → Bool
between (whole h) = false
between (parted h p) = true

-- every byte that was hashed so far, the parts of this message included
abbrev pub entered : Standing → List ℕ
entered (whole h) = hashed h
entered (parted h p) = hashed h ++ p.got

-- how many bytes of the message are left
abbrev pub left_of : Part → ℕ
left_of p = p.total - length p.got
