-- What feeding one message promises: what the log answers to it, the line that is printed of it, and the log after it.
-- Assumes nothing.
use Rattle.std.specs.Prelude.{◌≡◌, List, ℕ, ◌≤◌, length}
use Rattle.message_log.specs.Standing.{Standing}
use Rattle.message_log.specs.Stands.{Stands}
use Rattle.message_log.specs.declared.state.Log.{Log}
use Rattle.message_log.specs.declared.answers.Accepted.{Accepted}
use Rattle.listing.specs.Listing.{line_for, log_refusal, log_after}

pub record Takes (log : Log) (m : List ℕ) (r : Accepted) : Type 0 where
  -- whatever log is passed, a place in the log column has one digit
  pub short : r.refusal.place ≤ 3
  pub refusal : (s : Standing) → Stands log s → r.refusal ≡ log_refusal s m
  pub stands : (s : Standing) → Stands log s → Stands r.log (log_after s m)

pub record Feeds (log : Log) (i : ℕ) (m printed : List ℕ) (log' : Log) : Type 0 where
  pub short : length printed ≤ 16
  pub line : (s : Standing) → Stands log s → printed ≡ line_for i s m
  pub stands : (s : Standing) → Stands log s → Stands log' (log_after s m)
