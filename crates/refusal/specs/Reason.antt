-- The reasons of a refusal and document 01's table: each has a number of it, and the first two a place in the message.
-- Assumes nothing.
use Rattle.std.specs.Prelude.{ℕ, ⊤, Result, Ok, Err}
use Rattle.refusal.specs.Table.{refusal_of, refusal_at}
use Rattle.refusal.specs.declared.Refusal.{Refusal}
use Rattle.refusal.specs.declared.reason.Reason.{Reason}
use Rattle.refusal.specs.declared.reason.Reason.TheVariants.{Malformed, Repeated, Version, NotOffered, Indication, NoSecret, OutOfTurn, Differs, Closed, Length, Name, Suite}

abbrev pub number_for : Reason → ℕ
number_for (Malformed place) = 1  -- malformed message
number_for (Repeated place) = 2  -- extension type twice in a hello
number_for Version = 3  -- version
number_for NotOffered = 4  -- ServerHello extension never offered
number_for Indication = 5  -- renegotiation indication wrong or missing
number_for NoSecret = 6  -- master secret rule forbids it
number_for OutOfTurn = 7  -- out of turn
number_for Differs = 8  -- Finished value differs
number_for Closed = 9  -- renegotiation closed, server side
number_for Length = 10  -- a lent length outside its bounds
number_for Name = 11  -- axle not 1 to 6, or identifier not 1 to 32 bytes
number_for Suite = 12  -- order 2, suite differs, client side

abbrev pub place_for : Reason → ℕ
place_for (Malformed place) = place
place_for (Repeated place) = place
place_for _ = 0

-- its row of the table
abbrev pub refusal_for : Reason → Refusal
refusal_for r = refusal_at (number_for r) (place_for r)

-- the number of a call that answers nothing else: 0 where it is done
abbrev pub said : Result ⊤ Reason → ℕ
said (Ok _) = 0
said (Err r) = number_for r

-- what a call answers, with the table's row for its reason
abbrev pub refused : {A : Type 0} → Result A Reason → Result A Refusal
refused (Ok x) = Ok x
refused (Err r) = Err (refusal_for r)

-- the refusal of an answer, that of 0 where there is none
abbrev pub refusal_in : {A : Type 0} → Result A Reason → Refusal
refusal_in (Ok x) = refusal_of 0
refusal_in (Err r) = refusal_for r
