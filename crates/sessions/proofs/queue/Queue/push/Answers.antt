-- A session is the last.
-- Assumes nothing.
use Rattle.std.proofs.Common.{sym, ◌∙◌, ap, arith, length}
use Rattle.sessions.specs.Keeps.{sessions_of}
use Rattle.sessions.specs.declared.queue.Queue.{Queue}
use Rattle.sessions.proofs.Places.{sessions_length}
use Rattle.sessions.proofs.Laid.{laid_last, laid_length}
use Rattle.sessions.proofs.queue.Queue.push.Goals as goal

pub returns-then-n-ge8 : goal.returns-then-n-ge8
returns-then-n-ge8 c =
    λ b s e f h.
    let n = ap length c.sessions-n.ensures.0 ∙ sym (sessions_length 0 c.args.self.now) ∙ ap (λ (q : Queue). length (sessions_of 0 q)) e ∙ laid_length 0 b in
    absurd (omega (arith, n))

pub returns : goal.returns
returns c =
    λ b s e f h.
    let n = ap length c.sessions-n.ensures.0 ∙ sym (sessions_length 0 c.args.self.now) ∙ ap (λ (q : Queue). length (sessions_of 0 q)) e ∙ laid_length 0 b in
    rw (n, e, f) (laid_last b s h)
