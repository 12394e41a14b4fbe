-- What is put, with the lines of the types still to come behind it, is the whole.
-- Assumes nothing.
use Rattle.std.proofs.Common.{◌-◌, ◌≤◌}
use Rattle.comparing.specs.Differences.{types_from, extension_differences}
use Rattle.comparing.specs.Comparison.{text}
use Rattle.comparing.specs.Steps.{handed}
use Rattle.comparing.proofs.Putting.{Writing}
use Rattle.comparing.proofs.extensions.put_extensions.Given as goal

abbrev pub invariant-loop-kind : goal.invariant-loop-kind
invariant-loop-kind l = record {
  most : l.low ≤ 65536;
  writing : Writing l.initial.page (text (extension_differences l.number (handed l.a l.i) (handed l.b l.j))) l.page (text (types_from l.number (65536 - l.low) l.low (handed l.a l.i) (handed l.b l.j)));
}

abbrev pub decreases-loop-kind : goal.decreases-loop-kind
decreases-loop-kind l = 65536 - l.low
