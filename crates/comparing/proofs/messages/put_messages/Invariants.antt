-- Pair by pair, and then those that one case has alone.
-- Assumes nothing.
use Rattle.std.proofs.Common.{◌≡◌, ◌+◌, length}
use Rattle.cases.proofs.Bodies.{left}
use Rattle.comparing.specs.Differences.{differences}
use Rattle.comparing.specs.Comparison.{text}
use Rattle.comparing.proofs.Putting.{Writing}
use Rattle.comparing.proofs.Pairs.{pairs_text}
use Rattle.comparing.proofs.messages.put_messages.Given as goal

abbrev pub invariant-loop-i : goal.invariant-loop-i
invariant-loop-i l = record {
  first : l.p + left l.a l.i ≡ length l.a;
  second : l.q + left l.b l.i ≡ length l.b;
  writing : Writing l.initial.page (text (differences l.a l.b)) l.page (pairs_text l.a l.b l.i l.p l.q);
}
