-- Completion (document 01, 'The message log'): the one place where a connection record changes.
-- Assumes nothing.
use Rattle.std.specs.Prelude.{◌≡◌, true, not, List, [], ◌∷◌, ℕ, eqb, Result, Ok, Err}
use Rattle.seqs.specs.Pick.{pick}
use Rattle.seqs.specs.Flag.{yes, bit}
use Rattle.refusal.specs.First.{first_of}
use Rattle.refusal.specs.Table.{refusal_of}
use Rattle.refusal.specs.Reason.{refusal_for}
use Rattle.refusal.specs.declared.reason.Reason.{Reason}
use Rattle.refusal.specs.declared.Refusal.{Refusal}
use Rattle.message_log.specs.History.History.{fresh}
use Rattle.message_log.specs.History.Side.{client, server}
use Rattle.message_log.specs.Standing.{Standing, history_of, between}
use Rattle.message_log.specs.Standing.Standing.{whole}
use Rattle.message_log.specs.Calls.{finished_of}
use Rattle.message_log.specs.Stands.{Stands}
use Rattle.message_log.specs.Runs.{Call, standing_from, Run, Came}
use Rattle.message_log.specs.declared.state.Log.{Log}
use Rattle.message_log.specs.declared.answers.Finished.{Finished}
use Rattle.decision.specs.declared.connection.Connection.{Connection}
use Rattle.decision.specs.declared.connection.Decision.{Decision}

-- 'earlier, with a refused decision, or where decision and log disagree on resuming, it is 7'
unfoldable pub complete_number : Finished → Decision → ℕ
complete_number f d =
    first_of
    ((7, not (yes f.complete))
    ∷ (7, not (eqb d.refusal.number 0))
    ∷ (7, not (eqb (bit (yes f.resumed)) (bit (yes d.resumes))))
    ∷ [])

-- 'writes to the record: completed, the decision's flag and bar, and both values'
abbrev pub completed_record : Finished → Decision → Connection
completed_record f d =
    record {
      completed = 1;
      indication = bit (yes d.indication);
      barred = bit (yes d.bar);
      client = f.client;
      server = f.server;
    }

-- a call's refusal, and the record afterwards
pub record Completed : Type 0 where
  pub refusal : Refusal
  pub connection : Connection

-- of an answer: the record that it writes, or the one that there was
abbrev pub left_by : Connection → Result Connection Reason → Completed
left_by was (Ok written) = record { refusal = refusal_of 0; connection = written }
left_by was (Err reason) = record { refusal = refusal_for reason; connection = was }

-- the number with its alert, and the record afterwards: refused, as it was
unfoldable pub completed_of : Connection → Finished → Decision → Completed
completed_of c f d =
    record {
      refusal = refusal_of (complete_number f d);
      connection = pick (eqb (complete_number f d) 0) (completed_record f d) c;
    }

-- what completion promises: number and record are the definition's for what the log says of its Finished. Of a log that stands for
-- something that is `finished_of`; of any other struct value it is something, so that the number is 0 or 7 and 7 leaves the record.
pub record Completes (was : Connection) (log : Log) (d : Decision) (r : Refusal) (after : Connection) : Type 0 where
  pub finished : Finished
  pub refusal : r ≡ (completed_of was finished d).refusal
  pub connection : after ≡ (completed_of was finished d).connection
  pub kept : (r.number ≡ 0 → ⊥) → after ≡ was
  pub stands : (s : Standing) → Stands log s → finished ≡ finished_of s

-- Order 6: of a log that calls made from a fresh one, completion writes only values that were checked. The proof is
-- proofs/Completing.antt; that there are such logs, complete ones too, is `Total` and `EveryOrder` of the crate `log`.
abbrev pub WritesChecked : Type 0
WritesChecked =
    (begun log : Log) (cs : List Call) → Stands begun (whole fresh) → Run begun cs log
    → (was after : Connection) (d : Decision) (r : Refusal) → Completes was log d r after → r.number ≡ 0
    → Came client (history_of (standing_from (whole fresh) cs)) after.client × Came server (history_of (standing_from (whole fresh) cs)) after.server

-- Order 4: '7 for another log call between parts', and the record stays as it was. The proof is proofs/Completing.antt.
abbrev pub NotBetween : Type 0
NotBetween =
    (log : Log) (s : Standing) → Stands log s → between s ≡ true
    → (was after : Connection) (d : Decision) (r : Refusal) → Completes was log d r after → (r ≡ refusal_of 7) × (after ≡ was)
