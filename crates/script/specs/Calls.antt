-- A call as the code reads it, and the call on the book that it means.
-- Assumes nothing.
use Rattle.std.specs.Prelude.{◌≤◌, length}
use Rattle.sessions.specs.Book as book
use Rattle.script.specs.declared.call.Call.{Call}
use Rattle.script.specs.declared.call.Call.TheVariants.{Store, LookUp, Withdraw, Held, Clear}

abbrev pub meant : Call → book.Call
meant (Store axle identifier ems suite secret) =
    book.store (record { axle = axle; identifier = identifier.now; ems = ems; suite = suite; secret = secret.now })
meant (LookUp axle identifier lent) = book.look_up axle identifier.now lent.now
meant (Withdraw axle identifier) = book.withdraw axle identifier.now
meant (Held axle) = book.held axle
meant Clear = book.clear

-- what a look-up is lent has its place in an answer
abbrev pub IsLent : Call → Type 0
IsLent (LookUp axle identifier lent) = length lent.now ≤ 64
IsLent _ = Unit {0}
