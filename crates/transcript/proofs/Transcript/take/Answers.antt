-- By what is chosen: one hash takes the bytes, or both, and behind them what is told is chosen.
-- Assumes nothing.
use Rattle.std.proofs.Common.{rules}
use Rattle.transcript.proofs.Entering.{enters_384, enters_256, enters_both, goes_on, untold, chooses_256, chooses_384, chosen_256, chosen_384, unchosen_in}
use Rattle.transcript.proofs.Transcript.take.Goals as goal

pub returns-in-Some-Sha256 : goal.returns-in-Some-Sha256
returns-in-Some-Sha256 c =
    let a = c.args in
    let e = chosen_256 a.self.now (search rules) in
    goes_on _ _ _ _ _ (enters_256 a.self.now a.bytes.now _ _ c.take.ensures e) 0 e

pub returns-in-Some-Sha384 : goal.returns-in-Some-Sha384
returns-in-Some-Sha384 c =
    let a = c.args in
    let e = chosen_384 a.self.now (search rules) in
    goes_on _ _ _ _ _ (enters_384 a.self.now a.bytes.now _ _ c.take-in-Some-Sha384.ensures e) 1 e

pub returns-in-Some-Sha256-told : goal.returns-in-Some-Sha256-told
returns-in-Some-Sha256-told c =
    let a = c.args in
    let n = unchosen_in a.self.now c.in-None.ensures in
    let b = enters_both a.self.now a.bytes.now _ _ c.take-in-None.ensures _ _ c.take-in-None-2.ensures n.0 n.1 in
    chooses_256 _ _ _ _ _ b (search rules) c.in-None.ensures _ c.fresh-self.ensures _ c.from-self.ensures

pub returns-in-Some-Sha384-told : goal.returns-in-Some-Sha384-told
returns-in-Some-Sha384-told c =
    let a = c.args in
    let n = unchosen_in a.self.now c.in-None.ensures in
    let b = enters_both a.self.now a.bytes.now _ _ c.take-in-None.ensures _ _ c.take-in-None-2.ensures n.0 n.1 in
    chooses_384 _ _ _ _ _ b (search rules) c.in-None.ensures _ c.fresh-self-in-Some-Sha384-told.ensures _ c.from-self-in-Some-Sha384-told.ensures

pub returns-in-None-told : goal.returns-in-None-told
returns-in-None-told c =
    let a = c.args in
    let n = unchosen_in a.self.now c.in-None.ensures in
    let b = enters_both a.self.now a.bytes.now _ _ c.take-in-None.ensures _ _ c.take-in-None-2.ensures n.0 n.1 in
    untold _ _ _ _ _ b (search rules)
