-- A session goes out, and those behind it move up.
-- Assumes nothing.
use Rattle.std.proofs.Common.{◌≡◌, sym, ◌∙◌, ap, arith, length, ℕ, ◌+◌, ◌-◌, set, subst, rules}
use Rattle.std.specs.List.{copy_within}
use Rattle.seqs.specs.Array.{length_mapped}
use Rattle.seqs.proofs.Cut.{cut_past, Shifted}
use Rattle.sessions.specs.Keeps.{laid, sessions_of}
use Rattle.sessions.specs.declared.row.Row.{Row}
use Rattle.sessions.specs.declared.queue.Queue.{Queue}
use Rattle.sessions.proofs.Places.{sessions_length}
use Rattle.sessions.proofs.Laid.{laid_cut, laid_length, shifted_at_once}
use Rattle.sessions.proofs.queue.Queue.remove.Goals as goal

pub returns-then-n-i : goal.returns-then-n-i
returns-then-n-i c =
    λ b e h.
    let n = ap length c.sessions-n.ensures.0 ∙ sym (sessions_length 0 c.args.self.now) ∙ ap (λ (q : Queue). length (sessions_of 0 q)) e ∙ laid_length 0 b in
    e ∙ ap laid (sym (cut_past c.args.i b (omega (arith, n))))

pub returns : goal.returns
returns c =
    let all = c.args.self.now.rows in
    let rows = c.copy_within.new.self in
    let i = c.args.i in
    let n = length c.sessions-n.result.now in
    let l : length all ≡ 8 = search (length_mapped, rules) in
    let m : n - 1 + 1 ≡ n = omega arith in
    let s : Shifted all rows i (n - 1) =
    rw c.copy_within.ensures.after
    (subst (λ (x : ℕ). Shifted all (copy_within all (i + 1) x i) i (n - 1)) m (shifted_at_once all i (n - 1) (omega arith) (omega (arith, c.sessions-n.ensures.1)))) in
    λ b e h.
    let k = ap length c.sessions-n.ensures.0 ∙ sym (sessions_length 0 c.args.self.now) ∙ ap (λ (q : Queue). length (sessions_of 0 q)) e ∙ laid_length 0 b in
    let t : Shifted (laid b).rows rows i (n - 1) = rw e at s in
    ap {B = Queue} (λ (r : Row). record { rows = set rows (n - 1) r; held = n - 1 }) c.blank.ensures ∙ laid_cut b rows i (n - 1) t (omega (arith, k)) h
