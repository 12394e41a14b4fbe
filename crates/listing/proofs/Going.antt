-- The loop that goes through the messages: what is printed, and what is still to be printed from what the log stands for.
-- Assumes nothing.
use mathlib.Core.Path.{◌≡◌, sym, ◌∙◌, ap}
use mathlib.Core.List.{List, ◌++◌, append_assoc, append-nil}
use Prim.Native.Nat.{ℕ, ◌+◌, ◌≤◌, ◌<◌}
use Rattle.message_log.specs.History.History.{fresh}
use Rattle.message_log.specs.Standing.{Standing}
use Rattle.message_log.specs.Standing.Standing.{whole}
use Rattle.message_log.specs.Stands.{Stands}
use Rattle.message_log.specs.declared.state.Log.{Log}
use Rattle.cases.specs.Contents.{count_of, contents_size, bodies_of}
use Rattle.listing.specs.Texts.{header}
use Rattle.listing.specs.Listing.{lines, log_after}
use Rattle.listing.specs.Steps.{Feeds}
use Rattle.cases.proofs.Bodies.{size_at, body_at, bodies_from, bodies_all, bodies_more, bodies_end}

-- i messages are done, and the next one begins at `at`
pub record Going (case : List ℕ) (i at : ℕ) (text : List ℕ) (log : Log) : Type 0 where
  pub standing : Standing
  pub stands : Stands log standing
  pub rest : text ++ lines (i + 1) standing (bodies_from case i at) ≡ header ++ lines 1 (whole fresh) (bodies_of case)

pub going_none : (case text : List ℕ) (log : Log) → text ≡ header → Stands log (whole fresh)
    → Going case 0 (contents_size case) text log
going_none case text log e s =
    record { standing = whole fresh; stands = s; rest = rw (bodies_all case, e) }

pub going_more : (case : List ℕ) (i at : ℕ) (text line : List ℕ) (log log' : Log)
    → Going case i at text log
    → i < count_of case
    → Feeds log (i + 1) (body_at case i at) line log'
    → Going case (i + 1) (at + size_at case i) (text ++ line) log'
unfolding lines
going_more case i at text line log log' g b f =
    let h = log_after g.standing (body_at case i at) in
    let others = lines (i + 1 + 1) h (bodies_from case (i + 1) (at + size_at case i)) in
    record {
      standing = h;
      stands = f.stands g.standing g.stands;
      rest =
          append_assoc text line others
          ∙ ap (λ (l : List ℕ). text ++ (l ++ others)) (f.line g.standing g.stands)
          ∙ (rw (bodies_more case i at b) at g.rest);
    }

pub going_all : (case : List ℕ) (i at : ℕ) (text : List ℕ) (log : Log) → Going case i at text log → count_of case ≤ i
    → text ≡ header ++ lines 1 (whole fresh) (bodies_of case)
unfolding lines
going_all case i at text log g h =
    sym (append-nil text) ∙ (rw (bodies_end case i at h) at g.rest)
