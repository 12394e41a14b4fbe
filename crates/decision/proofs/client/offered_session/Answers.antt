-- The offer.
-- Assumes nothing.
use Rattle.std.proofs.Common.{◌≡◌, sym, ◌∙◌, ap, arith, true, false, Some}
use Rattle.std.proofs.lemmas.Bool.{false≢true}
use Rattle.decision.specs.Client.{bears}
use Rattle.decision.specs.Steps.{lent_in, session_lent}
use Rattle.decision.proofs.Telling.{offered_none, offered_bad, offered_good}
use Rattle.decision.proofs.client.offered_session.Goals as goal

pub returns-then-is_empty : goal.returns-then-is_empty
returns-then-is_empty c = let a = c.args in offered_none a.offered.now a.lent c.if-is_empty.ensures

pub returns-in-Some : goal.returns-in-Some
returns-in-Some c =
    let a = c.args in
    let b : bears (lent_in a.lent) a.offered.now ≡ true = rw c.in-Some.is (sym c.if-same.ensures) in
    let e : session_lent a.lent ≡ session_lent (Some c.in-Some.lent) = ap session_lent c.in-Some.is in
    rw (← e) (offered_good a.offered.now a.lent c.if-is_empty.ensures c.if-offered-le32.true b)

pub returns-in_default : goal.returns-in_default
returns-in_default c =
    let a = c.args in
    offered_bad a.offered.now a.lent c.if-is_empty.ensures (λ l b. let x : false ≡ true = c.if-same.ensures ∙ (rw c.in-Some.is at b) in false≢true x)

pub returns-in_default-2 : goal.returns-in_default-2
returns-in_default-2 c = let a = c.args in offered_bad a.offered.now a.lent c.if-is_empty.ensures (λ l b. omega arith)

pub returns-in_default-3 : goal.returns-in_default-3
returns-in_default-3 c = let a = c.args in offered_bad a.offered.now a.lent c.if-is_empty.ensures (λ l b. let x : false ≡ true = rw c.in_default.is at b in false≢true x)
