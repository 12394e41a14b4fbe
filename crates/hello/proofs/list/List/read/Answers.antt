-- The walk that tests each extension: a fault behind those that are whole is the fault.
-- Assumes nothing.
use Rattle.std.proofs.Common.{◌≡◌, sym, ◌∙◌, ap, arith}
use Rattle.hello.specs.Extensions.{shaped}
use Rattle.hello.specs.Places.{bytes_at}
use Rattle.hello.proofs.Tries.{handed_on}
use Rattle.hello.proofs.Lists.{whole_end}
use Rattle.hello.proofs.Entries.{Whole, entry_read, walk_cut, walk_bad, walk_on, walk_whole, end_is}
use Rattle.hello.proofs.list.List.read.Goals as goal
use Rattle.hello.proofs.list.List.read.Goals.{In_ok-next, After-well_shaped}

-- the extension that was read
read : (c : In_ok-next) → Whole c.args.message.now c.loop-end.end c.in_ok-next.next
read c = entry_read _ _ _ (sym c.read_entry.ensures.value ∙ c.in_ok-next.was)

-- its shape
judged : (c : After-well_shaped) → c.well_shaped.result ≡ shaped c.in_ok-next.next.kind (bytes_at c.args.message.now c.in_ok-next.next.«data»)
judged c = c.well_shaped.ensures ∙ ap (shaped c.in_ok-next.next.kind) c.of.ensures

pub returns-in_err-next : goal.returns-in_err-next
returns-in_err-next c =
    let b = walk_cut c.args.message.now c.loop-end.end _ (omega arith) (sym c.read_entry.ensures.value ∙ c.in_err-next.was) in
    rw (handed_on c.from_residual.result _ c.from_residual.ensures.1) (b.0, c.loop-end.invariant.fault b.0 b.1, b.2)

pub of-requires : goal.of-requires
of-requires c = let w = read (goal.at.of-requires c).In_ok-next in omega (arith, w.within, end_is _ _ _ w)

pub returns-then-not-well_shaped : goal.returns-then-not-well_shaped
returns-then-not-well_shaped c =
    let w = read (goal.at.returns-then-not-well_shaped c).In_ok-next in
    let b = walk_bad _ _ _ w (sym (judged (goal.at.returns-then-not-well_shaped c).After-well_shaped) ∙ c.if-not-well_shaped.true) in
    (b.0, c.loop-end.invariant.fault b.0 b.1, b.2)

pub end-end-requires : goal.end-end-requires
end-end-requires c = let w = read (goal.at.end-end-requires c).In_ok-next in omega (arith, w.within, end_is _ _ _ w)

pub loop-end-smaller : goal.loop-end-smaller
loop-end-smaller c = let w = read (goal.at.loop-end-smaller c).In_ok-next in omega (arith, w.within, end_is _ _ _ w)

pub loop-end-preserved : goal.loop-end-preserved
loop-end-preserved c =
    let w = read (goal.at.loop-end-preserved c).In_ok-next in
    let s = sym (judged (goal.at.loop-end-preserved c).After-well_shaped) ∙ c.if-not-well_shaped.false in
    rw c.end-end.ensures
    (record {
      within = omega (arith, w.within, end_is _ _ _ w);
      fault = λ p q. c.loop-end.invariant.fault p (walk_on _ _ _ w s p q);
      whole = c.loop-end.invariant.whole ∙ walk_whole _ _ _ w s;
    })

pub invariant_of-result : goal.invariant_of-result
invariant_of-result c = record { within = omega arith; well_formed = c.loop-end.invariant.whole ∙ whole_end c.args.message.now c.loop-end.end (omega arith) }
