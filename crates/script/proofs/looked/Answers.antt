-- A look_up: its output is lent for as long as it is, and handed on with zeros behind it.
-- Assumes nothing.
use Rattle.std.proofs.Common.{◌≡◌, List, ◌++◌, ◌-◌, ℕ, length, take, drop, replicate, ◌∙◌, ap}
use Rattle.script.proofs.Laws.{looked_steps, looked_bytes, lent_at, lent_front}
use Rattle.script.proofs.looked.Goals as goal

pub returns : goal.returns
returns c =
    let a = c.args in
    let l = c.look_up-r in
    let w : List ℕ = c.copy_from_slice.new.self ++ drop {A = ℕ} (length a.lent.now) (replicate 64 0) in
    let e : w ≡ a.lent.now ++ replicate (64 - length a.lent.now) 0 = lent_at a.lent.now c.copy_from_slice.new.self c.copy_from_slice.ensures.after in
    let f : take (length a.lent.now) w ≡ a.lent.now = lent_front a.lent.now w e in
    looked_steps a.table.now a.axle a.identifier.now a.lent.now l.result l.new.out _ (rw f at l.ensures)
    (looked_bytes l.result.refusal.number l.result.found l.result.ems l.result.suite c.bytes-bytes.result a.lent.now w l.new.out c.copy_from_slice-2.new.self
    c.bytes-bytes.ensures e (l.auto.out ∙ ap length f) c.copy_from_slice-2.ensures.after)
