-- The six sizes are the book's length.
-- Assumes nothing.
use Rattle.std.proofs.Common.{◌≡◌, ◌∙◌, ap, arith, rules, length, take, take_all}
use Rattle.std.specs.List.{sum_by}
use Rattle.seqs.specs.Array.{length_mapped}
use Rattle.sessions.specs.declared.queue.Queue.{Queue}
use Rattle.sessions.proofs.Queues.{total_is}
use Rattle.sessions.proofs.table.Table.total.Goals as goal

pub returns : goal.returns
returns c =
    λ b e g.
    let t = c.args.self.now in
    let l : length t.queues ≡ 6 = search (length_mapped, rules) in
    let all = take_all c.loop-queue.queue-index t.queues (omega arith) in
    c.loop-queue.invariant.1 ∙ ap (sum_by (λ (q : Queue). length (take q.held q.rows))) all ∙ total_is t b e g.formed
