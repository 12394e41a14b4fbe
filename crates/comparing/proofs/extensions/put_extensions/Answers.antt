-- What is put, with the lines of the types still to come behind it, is the whole.
-- Assumes nothing.
use Rattle.std.proofs.Common.{◌≡◌, ◌<◌, ◌⊎◌, ℕ, Some, ap, inl, inr, refl, arith}
use Rattle.comparing.specs.Differences.{extension_differences}
use Rattle.comparing.specs.Comparison.{text}
use Rattle.comparing.specs.Steps.{least, IsLesser}
use Rattle.comparing.proofs.Putting.{writing_all, writing_more, writing_none}
use Rattle.comparing.proofs.Types.{lower_from, types_text, types_room, types_end}
use Rattle.comparing.proofs.extensions.put_extensions.Goals as goal

some_found : {m n k : ℕ} → IsLesser m n (Some k) → (m < 65536) ⊎ (n < 65536)
some_found {m} {n} {k} l = go l.3
  where
    go : (k ≡ m) ⊎ (k ≡ n) → (m < 65536) ⊎ (n < 65536)
    go (inl e) = inl (omega (arith, l.0, e))
    go (inr e) = inr (omega (arith, l.0, e))

pub loop-kind-init : goal.loop-kind-init
unfolding extension_differences
loop-kind-init c = record { most = omega arith; writing = writing_all _ _ c.requires }

pub returns-in_default : goal.returns-in_default
unfolding text
returns-in_default c =
    let k : ((least c.lowest-x.result).kind ≡ 65536) × ((least c.lowest-y.result).kind ≡ 65536) = c.in_default.ensures in
    writing_none c.loop-kind.invariant.writing (ap text (types_end _ _ _ _ _ _ _ c.lowest-x.ensures c.lowest-y.ensures c.args.number 65536 c.loop-kind.invariant.most refl (omega (arith, k.0)) (omega (arith, k.1))))

pub match_data-requires : goal.match_data-requires
match_data-requires c =
    let k : IsLesser (least c.lowest-x.result).kind (least c.lowest-y.result).kind (Some c.in-Some.kind) = c.in-Some.ensures in
    record { found = some_found k; within = (c.lowest-x.ensures.within, c.lowest-y.ensures.within) }

pub put_extension-requires : goal.put_extension-requires
put_extension-requires c =
    let k : IsLesser (least c.lowest-x.result).kind (least c.lowest-y.result).kind (Some c.in-Some.kind) = c.in-Some.ensures in
    types_room _ _ _ _ _ _ _ c.lowest-x.ensures c.lowest-y.ensures _ c.in-Some.kind _ c.match_data.ensures k.0 k.1 k.2 k.3 c.loop-kind.invariant.writing

pub loop-kind-smaller : goal.loop-kind-smaller
loop-kind-smaller c =
    let k : IsLesser (least c.lowest-x.result).kind (least c.lowest-y.result).kind (Some c.in-Some.kind) = c.in-Some.ensures in
    omega (arith, k.0, lower_from _ _ _ _ c.loop-kind.low _ _ c.lowest-x.ensures c.lowest-y.ensures c.in-Some.kind k.0 k.3)

pub loop-kind-preserved : goal.loop-kind-preserved
loop-kind-preserved c =
    let k : IsLesser (least c.lowest-x.result).kind (least c.lowest-y.result).kind (Some c.in-Some.kind) = c.in-Some.ensures in
    let e = types_text _ _ _ _ _ _ _ c.lowest-x.ensures c.lowest-y.ensures c.args.number c.in-Some.kind _ c.match_data.ensures k.0 k.1 k.2 k.3 in
    record { most = omega (arith, k.0); writing = writing_more c.loop-kind.invariant.writing e c.put_extension.ensures }
