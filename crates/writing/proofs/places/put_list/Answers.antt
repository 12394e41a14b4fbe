-- The extensions one after the other: what is written, with what is left behind it, is the whole list.
-- Assumes nothing.
use Rattle.std.proofs.Common.{◌≡◌, List, ◌+◌, refl, sym, ◌∙◌, ap, length, arith}
use Rattle.hello.specs.Extensions.{Extension}
use Rattle.hello.specs.Written.{written_list}
use Rattle.octets.specs.Placed.{placed}
use Rattle.octets.proofs.Placing.{placed_nothing}
use Rattle.writing.specs.Lent.{lent}
use Rattle.writing.proofs.Walking.{fitting_counts, fitting_sums}
use Rattle.writing.proofs.Listed.{written_long, written_more, placed_extension}
use Rattle.writing.proofs.places.put_list.Goals as goal
use Rattle.writing.proofs.places.put_list.Goals.{In-Some}

-- what the next extension takes of what is left
taken : (c : In-Some) → length (written_list (lent c.loop-kind.kind-iterator)) ≡ 4 + length c.in-Some.«data».now + length (written_list (lent c.next.new.self))
taken c = ap (λ (es : List Extension). length (written_list es)) c.in-Some.ensures.steps ∙ written_more c.in-Some.kind c.in-Some.«data».now (lent c.next.new.self)

pub loop-kind-init : goal.loop-kind-init
loop-kind-init c =
    let l = c.args.list.now in
    let n = written_long l.types.now l.lengths.now l.«data».now (fitting_counts l.types.now l.lengths.now l.«data».now l.fits) (fitting_sums l.types.now l.lengths.now l.«data».now l.fits) in
    rw c.into_iter-kind-iterator.ensures.into_iter_gives (record { room = omega (arith, n, c.requires.0); small = omega (arith, n, c.requires.1); written = refl })

pub put_extension-to-requires : goal.put_extension-to-requires
put_extension-to-requires c =
    let t = taken (goal.at.put_extension-to-requires c).In-Some in
    let v = c.loop-kind.invariant in
    (omega (arith, t, v.room), omega (arith, t, v.small))

pub loop-kind-preserved : goal.loop-kind-preserved
loop-kind-preserved c =
    let t = taken (goal.at.loop-kind-preserved c).In-Some in
    let v = c.loop-kind.invariant in
    let e = c.put_extension-to.ensures in
    record {
      room = omega (arith, t, v.room, e.0, c.put_extension-to.auto.out);
      small = omega (arith, t, v.small);
      written = placed_extension c.loop-kind.out c.loop-kind.to c.put_extension-to.result c.in-Some.kind c.in-Some.«data».now (lent c.next.new.self) (omega (arith, t, v.room)) e.0 e.1
          ∙ ap (λ (es : List Extension). placed c.loop-kind.out c.loop-kind.to (written_list es)) (sym c.in-Some.ensures.steps) ∙ v.written;
    }

pub returns : goal.returns
unfolding written_list
returns c = sym (placed_nothing c.loop-kind.out c.loop-kind.to) ∙ (rw c.in-None.ensures.steps.0 at c.loop-kind.invariant.written)
