-- Where a session stands in a queue: what the functions behind the calls say to each other. No promise of a call names a place.
-- Assumes nothing.
use denote.Ref.{Bor}
use Rattle.std.specs.Prelude.{◌≡◌, Bool, List, ℕ, suc, ◌-◌, eqb, ⊤, Option, None, Some, Result, Ok, Err}
use Rattle.std.proofs.Math.Option as maybe
use Rattle.seqs.specs.Flag.{bit}
use Rattle.seqs.specs.Cut.{cut}
use Rattle.seqs.specs.Pick.{pick}
use Rattle.refusal.specs.Table.{refusal_of}
use Rattle.refusal.specs.Reason.{refusal_for, refusal_in}
use Rattle.refusal.specs.declared.reason.Reason.{Reason}
use Rattle.refusal.specs.declared.reason.Reason.TheVariants.{Name}
use Rattle.sessions.specs.Book.{Session, Book, struck, bad_axle, bad_name}
use Rattle.sessions.specs.Keeps.{part_of, session_of}
use Rattle.sessions.specs.declared.row.Row.{Row}
use Rattle.sessions.specs.declared.row.Weighed.{Weighed}
use Rattle.sessions.specs.declared.table.Table.{Table}
use Rattle.sessions.specs.declared.calls.Stored.{Stored}
use Rattle.sessions.specs.declared.calls.Looked.{Looked}
use Rattle.sessions.specs.declared.calls.Withdrawn.{Withdrawn}
use Rattle.sessions.specs.declared.table.Spot.{Spot}

-- the session behind a reference to its place, or none
abbrev pub session_at : ℕ → Option (Bor Row) → maybe.Option Session
session_at a None = maybe.none
session_at a (Some r) = maybe.some (session_of a r.now)

-- What axle a's store of i strikes out of the book b is the session at place k in axle f's queue, if there is one: of every
-- axle's part that is said.
abbrev pub Goes : ℕ → List ℕ → Book → ℕ → ℕ → Type 0
Goes a i b f k = (c : ℕ) → part_of c (struck a i b) ≡ pick (eqb c f) (cut k (part_of c b)) (part_of c b)

-- The same of the session that is found to go from the queues, where `own` is axle a's; or none goes.
abbrev pub Leaves : ℕ → List ℕ → Book → Option Spot → Type 0
Leaves own i b None = (c : ℕ) → part_of c (struck (suc own) i b) ≡ part_of c b
Leaves own i b (Some s) = Goes (suc own) i b (suc s.queue) s.place

-- ---- the place of an axle's queue

unfoldable pub place_of : ℕ → Result ℕ Reason
place_of a = pick (bad_axle a) (Err Name) (Ok (a - 1))

-- by an axle and an identifier that a session can have
unfoldable pub named_place : ℕ → List ℕ → Result ℕ Reason
named_place a i = pick (bad_name a i) (Err Name) (Ok (a - 1))

-- ---- what the functions behind the calls answer, as the calls hand it out

abbrev pub stored_in : Result ⊤ Reason → Table → Stored
stored_in r t = record { refusal = refusal_in r; table = t }

abbrev pub looked_in : Result (Option Weighed) Reason → Looked
looked_in (Ok (Some w)) = record { refusal = refusal_of 0; found = 1; ems = w.ems; suite = w.suite }
looked_in (Ok None) = record { refusal = refusal_of 0; found = 0; ems = 0; suite = 0 }
looked_in (Err e) = record { refusal = refusal_for e; found = 0; ems = 0; suite = 0 }

abbrev pub withdrawn_in : Result Bool Reason → Table → Withdrawn
withdrawn_in (Ok found) t = record { refusal = refusal_of 0; withdrawn = bit found; table = t }
withdrawn_in (Err e) t = record { refusal = refusal_for e; withdrawn = 0; table = t }
