-- Of one type or not.
-- Assumes nothing.
use Rattle.std.proofs.Common.{◌≡◌, ◌<◌, ◌⊎◌, ℕ, List, false, Option, Some, None, sym, ◌∙◌, ap, inl, inr, arith}
use Rattle.std.specs.Option.{option_zip}
use borrow.Author.Tests.{eq-eqb, ne_eqb}
use Rattle.comparing.specs.Steps.{least, matched}
use Rattle.comparing.specs.declared.extensions.Found.{Found}
use Rattle.comparing.proofs.extensions.match_data.Goals as goal

-- one that is there alone
alone : (a b : List ℕ) (x y : Option Found) → ((least x).kind < 65536) ⊎ ((least y).kind < 65536) → option_zip x y ≡ None → matched a (least x) b (least y) ≡ false
unfolding matched
alone a b None None (inl h) e = absurd (omega arith)
alone a b None None (inr h) e = absurd (omega arith)
alone a b None (Some y) (inl h) e = absurd (omega arith)
alone a b None (Some y) (inr h) e = rw (ne_eqb 65536 y.kind (λ z. omega arith))
alone a b (Some x) None (inl h) e = rw (ne_eqb x.kind 65536 (λ z. omega arith))
alone a b (Some x) None (inr h) e = absurd (omega arith)
alone a b (Some x) (Some y) h e = absurd (let z : ◌≡◌ {A = ℕ} 0 1 = cc in omega arith)

both : (x y : Option Found) (t : Found × Found) → option_zip x y ≡ Some t → (x ≡ Some t.0) × (y ≡ Some t.1)
both None y t e = absurd (let z : ◌≡◌ {A = ℕ} 0 1 = cc in omega arith)
both (Some x) None t e = absurd (let z : ◌≡◌ {A = ℕ} 0 1 = cc in omega arith)
both (Some x) (Some y) t e =
    let f : ◌≡◌ {A = Option (Found × Found)} (Some (x, y)) (Some t) = e in
    let q : ◌≡◌ {A = Found × Found} (x, y) t = cc in
    (ap (λ (p : Found × Found). Some p.0) q, ap (λ (p : Found × Found). Some p.1) q)

pub returns-in_default : goal.returns-in_default
returns-in_default c = sym (alone c.args.a.now c.args.b.now c.args.x c.args.y c.requires.found (sym c.zip.ensures ∙ c.in_default.is))

pub returns-then-x-y : goal.returns-then-x-y
unfolding matched
returns-then-x-y c =
    let b = both c.args.x c.args.y (c.in-Some.x, c.in-Some.y) (sym c.zip.ensures ∙ c.in-Some.is) in
    rw (b.0, b.1, eq-eqb c.in-Some.x.kind c.in-Some.y.kind c.if-x-y.true) c.same_part.ensures

pub returns-else-x-y : goal.returns-else-x-y
unfolding matched
returns-else-x-y c =
    let b = both c.args.x c.args.y (c.in-Some.x, c.in-Some.y) (sym c.zip.ensures ∙ c.in-Some.is) in
    rw (b.0, b.1, ne_eqb c.in-Some.x.kind c.in-Some.y.kind c.if-x-y.false)
