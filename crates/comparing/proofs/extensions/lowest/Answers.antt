-- Of those that came, the lowest is kept.
-- Assumes nothing.
use mathlib.Core.Path.{◌≡◌, ◌∙◌, ap}
use Rattle.hello.specs.Next.{next_at}
use Rattle.hello.specs.declared.next.Next.{Next}
use Rattle.comparing.proofs.Handing.{asking_none, asking_more, asking_end, whole}
use Rattle.comparing.proofs.Types.{lowest_none}
use native.Mathlib.Omega.{arith}
use Rattle.comparing.proofs.extensions.lowest.Goals as goal

pub loop-next-init : goal.loop-next-init
loop-next-init c = asking_none _ _ _ _ (lowest_none _ _)

pub returns-then-next-eq0 : goal.returns-then-next-eq0
returns-then-next-eq0 c =
    let n = ap (λ (x : Next). x.found) c.next_extension-next.ensures in
    asking_end _ _ _ _ c.loop-next.at c.loop-next.invariant (omega (arith, n))

pub loop-next-smaller : goal.loop-next-smaller
loop-next-smaller c =
    let n = c.next_extension-next.ensures in
    let w = whole c.args.message.now c.loop-next.at (λ e. c.if-next-eq0.false (ap (λ (x : Next). x.found) n ∙ e)) in
    omega (arith, w.further, w.before, ap (λ (x : Next). x.next) n)

pub loop-next-preserved : goal.loop-next-preserved
loop-next-preserved c =
    let m = c.args.message.now in
    let n = c.next_extension-next.ensures in
    let z : (next_at m c.loop-next.at).found ≡ 0 → ⊥ = λ e. c.if-next-eq0.false (ap (λ (x : Next). x.found) n ∙ e) in
    let w = whole m c.loop-next.at z in
    let a = c.loop-next.invariant in
    rw n (asking_more m _ _ _ c.loop-next.at a _ z (rw n at (c.lower-best.ensures m a.came a.lowest (rw n w.within))))
