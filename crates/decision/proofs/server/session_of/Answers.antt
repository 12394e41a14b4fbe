-- The session of a hello.
-- Assumes nothing.
use Rattle.std.proofs.Common.{◌≡◌, refl, sym, ◌∙◌, ap, arith, ℕ, ◌+◌, ◌-◌, length, take, drop}
use Rattle.std.specs.Prelude as std
use Rattle.hello.specs.Places.{client_places}
use Rattle.hello.specs.declared.client.ClientHello.{ClientHello}
use Rattle.hello.proofs.Learnt.{client_learnt}
use Rattle.decision.specs.Server.{on_offer}
use Rattle.decision.proofs.Serving.{session_none, session_found, listed}
use Rattle.decision.proofs.server.session_of.Goals as goal

pub returns-then-identifier-eq0 : goal.returns-then-identifier-eq0
unfolding client_places
returns-then-identifier-eq0 c =
    let a = c.args in
    let l = client_learnt a.message.now a.hello.now c.requires in
    let n : a.hello.now.identifier.length ≡ length l.hello.identifier = ap (λ (x : ClientHello). x.identifier.length) l.places in
    session_none a.table.now a.axle _ l.hello l.reading (sym n ∙ c.if-identifier-eq0.true)

pub overflow_add-end : goal.overflow_add-end
overflow_add-end c = omega (arith, (client_learnt c.args.message.now c.args.hello.now c.requires).identifier.within)

pub slice_bounds-known-end : goal.slice_bounds-known-end
slice_bounds-known-end c = omega (arith, (client_learnt c.args.message.now c.args.hello.now c.requires).identifier.within)

pub overflow_add-to : goal.overflow_add-to
overflow_add-to c = omega (arith, (client_learnt c.args.message.now c.args.hello.now c.requires).suites.within)

pub slice_bounds-lists_suite-end : goal.slice_bounds-lists_suite-end
slice_bounds-lists_suite-end c = omega (arith, (client_learnt c.args.message.now c.args.hello.now c.requires).suites.within)

pub returns-in_err-session : goal.returns-in_err-session
unfolding client_places on_offer
returns-in_err-session c =
    let a = c.args in
    let m = a.message.now in
    let l = client_learnt m a.hello.now c.requires in
    let i = a.hello.now.identifier in
    let n : i.length ≡ length l.hello.identifier = ap (λ (x : ClientHello). x.identifier.length) l.places in
    let k : i.at + i.length - i.at ≡ i.length = omega arith in
    rw c.from_residual.ensures
    (session_found a.table.now a.axle _ l.hello l.reading (λ z. c.if-identifier-eq0.false (n ∙ z)) _ l.hello.suites std.None std.None
    (ap (λ (x : ℕ). take x (drop i.at m)) k ∙ l.identifier.is) refl c.in_err-session.ensures refl)

pub returns : goal.returns
unfolding client_places
returns c =
    let a = c.args in
    let m = a.message.now in
    let l = client_learnt m a.hello.now c.requires in
    let i = a.hello.now.identifier in
    let u = a.hello.now.suites in
    let n : i.length ≡ length l.hello.identifier = ap (λ (x : ClientHello). x.identifier.length) l.places in
    let k : i.at + i.length - i.at ≡ i.length = omega arith in
    let j : u.at + u.length - u.at ≡ u.length = omega arith in
    session_found a.table.now a.axle _ l.hello l.reading (λ z. c.if-identifier-eq0.false (n ∙ z)) _ _ (std.Some c.in_ok-session.session) c.then_some.result
    (ap (λ (x : ℕ). take x (drop i.at m)) k ∙ l.identifier.is)
    (ap (λ (x : ℕ). take x (drop u.at m)) j ∙ l.suites.is)
    c.in_ok-session.ensures (rw c.then_some.ensures (listed _ c.in_ok-session.session c.lists_suite.ensures))
