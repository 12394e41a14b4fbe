-- Tagged, or refused for a length.
-- Assumes nothing.
use Rattle.prf.specs.Hash.{SHA256}
use Rattle.prf.proofs.Answers.{tag_done, tag_refused, tagged, by_length}
use Rattle.prf.proofs.keyed.hmac.Goals as goal

pub returns-in-Ok : goal.returns-in-Ok
returns-in-Ok c =
    let a = c.args in
    let e = c.in-Ok.ensures in
    tagged a.key.now a.message.now c.refuse.ensures e.0 (tag_done SHA256 a.key.now a.message.now e.0 e.1)

pub returns-in-Err : goal.returns-in-Err
returns-in-Err c =
    let a = c.args in
    let e = c.in-Err.ensures in
    tagged a.key.now a.message.now (by_length c.from.ensures e.1) e.0 (tag_refused SHA256 a.key.now a.message.now e.0)
