-- Place by place.
-- Assumes nothing.
use Rattle.std.proofs.Common.{◌≡◌, ap, suc, arith, rules, length}
use Rattle.seqs.specs.Array.{length_mapped}
use Rattle.sessions.proofs.Queues.{queue_read}
use Rattle.sessions.proofs.table.Table.queue.Goals as goal

pub returns-in-0 : goal.returns-in-0
returns-in-0 c =
    let a = c.args in
    let l : length a.self.now.queues ≡ 6 = search (length_mapped, rules) in
    queue_read a.self.now (suc a.own) 0 l (omega arith) (ap suc c.in-0.is)

pub returns-in-1 : goal.returns-in-1
returns-in-1 c =
    let a = c.args in
    let l : length a.self.now.queues ≡ 6 = search (length_mapped, rules) in
    queue_read a.self.now (suc a.own) 1 l (omega arith) (ap suc c.in-1.is)

pub returns-in-2 : goal.returns-in-2
returns-in-2 c =
    let a = c.args in
    let l : length a.self.now.queues ≡ 6 = search (length_mapped, rules) in
    queue_read a.self.now (suc a.own) 2 l (omega arith) (ap suc c.in-2.is)

pub returns-in-3 : goal.returns-in-3
returns-in-3 c =
    let a = c.args in
    let l : length a.self.now.queues ≡ 6 = search (length_mapped, rules) in
    queue_read a.self.now (suc a.own) 3 l (omega arith) (ap suc c.in-3.is)

pub returns-in-4 : goal.returns-in-4
returns-in-4 c =
    let a = c.args in
    let l : length a.self.now.queues ≡ 6 = search (length_mapped, rules) in
    queue_read a.self.now (suc a.own) 4 l (omega arith) (ap suc c.in-4.is)

pub returns-in_default : goal.returns-in_default
returns-in_default c =
    let a = c.args in
    let l : length a.self.now.queues ≡ 6 = search (length_mapped, rules) in
    queue_read a.self.now (suc a.own) 5 l (omega arith) (omega arith)
