-- Each turn is one step of the definition: the extensions, with their numbers, and those before one of them.
-- Assumes nothing.
use Rattle.std.proofs.Common.{◌≡◌, refl, sym, ◌∙◌, ap, List, [], ℕ, ◌<◌, length, take, get_or, inl, arith, Some, None}
use Rattle.std.specs.List.{list_any, enumerate_from}
use Rattle.std.specs.Iterator.{YieldsFirst}
use Rattle.std.specs.Iterator.Adapters.{enumerate_steps, take_steps}
use Rattle.std.proofs.lemmas.Bool.{eq-eqb}
use Rattle.std.proofs.lemmas.Iterator.{YieldsList, YieldsList-from_take}
use Rattle.std.proofs.lemmas.Iterator.Consumers.{YieldsList-at, YieldsList-from_first, YieldsList-from_enumerate, YieldsList-turn, YieldsList-end}
use Rattle.std.proofs.lemmas.List.{length_push, map-id}
use Rattle.std.proofs.lemmas.List.Folds.{list_any_at}
use Rattle.std.proofs.lemmas.List.FromFn.{length-enumerate_from}
use Rattle.hello.specs.Cuts.{list_at}
use Rattle.hello.specs.Entries.{entries_from}
use Rattle.hello.specs.declared.list.List as rust
use Rattle.hello.specs.declared.walk.Entry.{Entry}
use Rattle.hello.proofs.Entries.{entries_fit, numbered, same_kind, first_repeat, repeat_now, repeat_later, repeat_end, reason_of, repeat_found}
use Rattle.hello.proofs.list.List.differ.Goals as goal
use Rattle.hello.proofs.list.List.differ.Goals.{After-into_iter-n-iterator, After-into_iter-f-iterator}

-- the list's extensions
abbrev all_of : rust.List → List Entry
all_of l = entries_from l.at (list_at l.message.now l.at)

pub all-init-derived : goal.all-init-derived
all-init-derived c =
    let s = c.args.self in
    let i = c.into_iter-n-iterator.ensures.into_iter_gives in
    ((tt, tt, inl (rw (i, c.enumerate-n-items.ensures.source, c.enumerate-n-items.ensures.count) (omega (arith, entries_fit s.message.now s.at s.within s.well_formed)))), tt)

-- the extensions with their numbers
road : (c : After-into_iter-n-iterator) → YieldsList (enumerate_steps (YieldsFirst all_of)) (λ (p : ℕ × Entry). p) c.into_iter-n-iterator.result (enumerate_from 0 (all_of c.args.self))
road c =
    let s = c.args.self in
    let i = c.into_iter-n-iterator.ensures.into_iter_gives in
    YieldsList-from_enumerate
    (YieldsList-at (ap (λ x. x.iter) i ∙ c.enumerate-n-items.ensures.source) (YieldsList-from_first (λ (x : Entry). x) all_of {s = s} (all_of s) refl))
    (ap (λ x. x.count) i ∙ c.enumerate-n-items.ensures.count)

-- which of them this turn has
turned : (c : After-into_iter-f-iterator) → (c.in-Some.n ≡ length c.all.yielded) × (length c.all.yielded < length (all_of c.args.self)) × (c.in-Some.e ≡ get_or (all_of c.args.self) (length c.all.yielded) c.in-Some.e)
turned c =
    let r = road (goal.at.After-into_iter-f-iterator c).After-into_iter-n-iterator in
    numbered (all_of c.args.self) (length c.all.yielded) c.in-Some.n c.in-Some.e (YieldsList-turn r c.all.yielded _ c.all.yielded_by c.next.result c.next.new.self (c.in-Some.n, c.in-Some.e) c.in-Some.is c.next.ensures.steps)

-- those before it
before : (c : After-into_iter-f-iterator) → YieldsList (take_steps (YieldsFirst all_of)) (λ (x : Entry). x) c.into_iter-f-iterator.result (take (length c.all.yielded) (all_of c.args.self))
before c =
    let s = c.args.self in
    let i = c.into_iter-f-iterator.ensures.into_iter_gives in
    YieldsList-from_take (length c.all.yielded)
    (YieldsList-at (ap (λ x. x.iter) i ∙ c.take-f-items.ensures.source) (YieldsList-from_first (λ (x : Entry). x) all_of {s = s} (all_of s) refl))
    (ap (λ x. x.n) i ∙ c.take-f-items.ensures.count ∙ (turned c).0)

pub returns-then-f-e : goal.returns-then-f-e
returns-then-f-e c =
    let d = (goal.at.returns-then-f-e c).After-into_iter-f-iterator in
    let s = c.args.self in
    let t = turned d in
    let p = YieldsList-turn (before d) c.loop-f.yielded _ c.loop-f.yielded_by c.next-in-loop-f.result c.next-in-loop-f.new.self c.in-Some-f.f c.in-Some-f.is c.next-in-loop-f.ensures.steps in
    let same = list_any_at (same_kind c.in-Some.e.kind) _ _ c.in-Some-f.f p.0 (ap (same_kind c.in-Some.e.kind) (sym p.1) ∙ eq-eqb _ _ c.if-f-e.true) in
    let f : first_repeat [] (all_of s) ≡ Some c.in-Some.e = c.all.invariant.left ∙ repeat_now (all_of s) _ c.in-Some.e t.1 t.2 same in
    sym (ap reason_of f) ∙ repeat_found s.at (list_at s.message.now s.at)

pub all-preserved : goal.all-preserved
all-preserved c =
    let d = (goal.at.all-preserved c).After-into_iter-f-iterator in
    let t = turned d in
    let q = (YieldsList-end (before d) c.loop-f.yielded _ c.loop-f.yielded_by c.next-in-loop-f.result c.next-in-loop-f.new.self c.in-None-f.is c.next-in-loop-f.ensures.steps).0 in
    let other = ap (list_any (same_kind c.in-Some.e.kind)) (sym q ∙ map-id c.loop-f.yielded) ∙ c.loop-f.invariant.other in
    rw (length_push c.all.yielded (c.in-Some.n, c.in-Some.e))
    (record {
      none = c.loop-f.invariant.none;
      left = c.all.invariant.left ∙ repeat_later (all_of c.args.self) _ c.in-Some.e t.1 t.2 other;
    })

pub returns-in-None : goal.returns-in-None
returns-in-None c =
    let s = c.args.self in
    let r = road (goal.at.returns-in-None c).After-into_iter-n-iterator in
    let e = YieldsList-end r c.all.yielded _ c.all.yielded_by c.next.result c.next.new.self c.in-None.is c.next.ensures.steps in
    let f : first_repeat [] (all_of s) ≡ None = c.all.invariant.left ∙ repeat_end (all_of s) _ (omega (arith, e.1, length-enumerate_from 0 (all_of s))) in
    c.all.invariant.none ∙ sym (ap reason_of f) ∙ repeat_found s.at (list_at s.message.now s.at)
