-- The sum so far.
-- Assumes nothing.
use Rattle.std.proofs.Common.{◌≡◌, ◌≤◌, ◌*◌, take, length}
use Rattle.std.specs.List.{sum_by}
use Rattle.sessions.specs.declared.queue.Queue.{Queue}
use Rattle.sessions.proofs.table.Table.total.Given as goal

abbrev pub invariant-loop-queue : goal.invariant-loop-queue
invariant-loop-queue l = (l.total ≤ 8 * l.queue-index) × (l.total ≡ sum_by (λ (q : Queue). length (take q.held q.rows)) (take l.queue-index l.self.queues))
