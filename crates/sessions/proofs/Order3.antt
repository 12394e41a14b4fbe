-- The proof of order 3's statement (specs/Order3.antt): the table keeps the plain book of the calls, and so does the old layout.
-- Assumes nothing.
use mathlib.Core.Path.{sym, ◌∙◌, ap}
use native.Mathlib.Omega.{arith}
use lib.ListN.{length, get_or}
use Rattle.sessions.specs.Book.{empty, book_from}
use Rattle.sessions.specs.History.{calls_of}
use Rattle.sessions.specs.Keeps.{part_of}
use Rattle.sessions.specs.Order3.{Theorem, Met}
use Rattle.sessions.specs.declared.queue.Queue.{Queue}
use Rattle.sessions.proofs.Demand3.{demand3}
use Rattle.sessions.proofs.Laid.{laid_blank}
use Rattle.sessions.proofs.OneRow.{one_row}
use Rattle.sessions.proofs.Parts.{part_length}
use Rattle.sessions.proofs.Queues.{queue_is, queue_sessions, queue_held}
use Rattle.sessions.proofs.Struck.{all_six}
use Rattle.sessions.proofs.Total.{total}

pub order3 : Theorem
order3 t t' h s r =
    let d = demand3 t t' h s r in
    let b = book_from empty (calls_of h) in
    let e = d.keeps.table in
    let one = queue_held t' b e 1 (omega arith) (omega arith) in
    let two = queue_held t' b e 2 (omega arith) (omega arith) in
    let three = queue_held t' b e 3 (omega arith) (omega arith) in
    let four = queue_held t' b e 4 (omega arith) (omega arith) in
    let five = queue_held t' b e 5 (omega arith) (omega arith) in
    let last = queue_held t' b e 6 (omega arith) (omega arith) in
    record {
      as_before = d.answers ∙ sym (one_row (calls_of h));
      queues = queue_sessions t' b e;
      counted = λ a from to. queue_held t' b e a from to ∙ sym (part_length a b) ∙ ap length (sym (queue_sessions t' b e a from to));
      room = λ a from to. rw (queue_held t' b e a from to) (d.eight a);
      all = omega (arith, one, two, three, four, five, last, all_six b d.keeps.sound.formed, d.thirty_two);
      blank = λ a k x from to h j.
          ap (λ (q : Queue). get_or q.rows k x) (queue_is t' b e a from to)
          ∙ laid_blank (part_of a b) k x (omega (arith, part_length a b, queue_held t' b e a from to, h)) j;
      whole = e;
    }

pub met : Met
met t cs s = let r = total t cs s in (r, order3 t r.left r.history s r.run)
