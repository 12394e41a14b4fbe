-- The fullest of the first ones, up to all six.
-- Assumes nothing.
use Rattle.std.proofs.Common.{◌≡◌, sym, ◌∙◌, ap, arith, refl, suc, ℕ}
use Rattle.sessions.specs.Book.{fuller}
use Rattle.sessions.proofs.Ways.{fullest_of, fullest_six, fullest_next, fuller_first, fuller_second}
use Rattle.sessions.proofs.Queues.{no_queue, held_at}
use Rattle.sessions.proofs.table.Table.fullest.Goals as goal
use Rattle.sessions.proofs.table.Table.fullest.Goals.{then-self-most, else-self-most}

pub loop-own-init : goal.loop-own-init
unfolding fullest_of
loop-own-init c = (omega arith, λ b e. refl)

pub loop-own-preserved : goal.loop-own-preserved
loop-own-preserved c =
    let t = c.args.self.now in
    let m = c.loop-own.most in
    let o = c.loop-own.own in
    let inv = c.loop-own.invariant in
    elim c.if-self-most.branch [
      | then-self-most w ↦ (
        omega (arith, w.most-is),
        λ b e.
            let x = held_at t b e m no_queue inv.0 in
            let y = held_at t b e o no_queue c.loop-own-test.true in
            ap suc w.most-is
            ∙ fuller_second b (suc m) (suc o) (omega (arith, x, y, w.if-self-most.true))
            ∙ ap (λ (n : ℕ). fuller b n (suc o)) (inv.1 b e)
            ∙ sym (fullest_next b o c.loop-own.auto.own),
      )
      | else-self-most w ↦ (
        omega (arith, w.most-is),
        λ b e.
            let x = held_at t b e m no_queue inv.0 in
            let y = held_at t b e o no_queue c.loop-own-test.true in
            ap suc w.most-is
            ∙ fuller_first b (suc m) (suc o) (omega (arith, x, y, w.if-self-most.false))
            ∙ ap (λ (n : ℕ). fuller b n (suc o)) (inv.1 b e)
            ∙ sym (fullest_next b o c.loop-own.auto.own),
      )
    ]

pub returns : goal.returns
returns c =
    let l = c.loop-own in
    let six : l.own ≡ 6 = omega arith in
    (l.invariant.0, λ b e. l.invariant.1 b e ∙ ap (fullest_of b) six ∙ fullest_six b)
