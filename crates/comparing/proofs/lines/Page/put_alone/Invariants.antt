-- What is put, with the lines still to come behind it, is the whole.
-- Assumes nothing.
use Rattle.std.proofs.Common.{◌+◌, ◌-◌}
use Rattle.comparing.specs.Steps.{lines_from}
use Rattle.comparing.proofs.Putting.{Writing}
use Rattle.comparing.proofs.lines.Page.put_alone.Given as goal

abbrev pub invariant-loop-i : goal.invariant-loop-i
invariant-loop-i l = Writing l.initial.self (lines_from l.word (l.from + 1) (l.to - l.from)) l.self (lines_from l.word (l.i + 1) (l.to - l.i))
