-- Which call a message goes to, and what the log answers there.
-- Assumes nothing.
use mathlib.Core.Path.{◌≡◌}
use mathlib.Core.List.{List}
use Prim.Native.Nat.{ℕ}
use borrow.Author.Tests.{eq-eqb, ne_eqb}
use Rattle.message.specs.Frame.{kind_of}
use Rattle.transcript.specs.Choice.Algorithm.{sha_256}
use Rattle.message_log.specs.Told.{full}
use Rattle.message_log.specs.Calls.{is_finished}
use Rattle.message_log.specs.Promise.{Accepts, Finishes}
use Rattle.message_log.specs.declared.state.Log.{Log}
use Rattle.message_log.specs.declared.answers.Accepted.{Accepted}
use Rattle.listing.specs.Listing.{zero_secret, log_number, log_refusal, log_after}
use Rattle.listing.specs.Steps.{Takes}
use Rattle.listing.proofs.Placing.{log_place}

module _ (log : Log) (m : List ℕ) (r : Accepted) where
  pub finished_takes : kind_of m ≡ 20 → Finishes log zero_secret m r → Takes log m r
  unfolding is_finished log_number log_refusal log_after
  finished_takes k f =
      record {
        short = log_place _ m _ f.placed;
        refusal = λ h s. rw (eq-eqb (kind_of m) 20 k) (f.refusal h s);
        stands = λ h s. rw (eq-eqb (kind_of m) 20 k) (f.stands h s);
      }

  pub other_takes : (kind_of m ≡ 20 → ⊥) → Accepts log m (full sha_256) r → Takes log m r
  unfolding is_finished log_number log_refusal log_after
  other_takes k a =
      record {
        short = log_place _ m _ a.placed;
        refusal = λ h s. rw (ne_eqb (kind_of m) 20 k) (a.refusal h s);
        stands = λ h s. rw (ne_eqb (kind_of m) 20 k) (a.stands h s);
      }
