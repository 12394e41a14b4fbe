-- The identifier is put into zeros.
-- Assumes nothing.
use Rattle.std.proofs.Common.{◌≡◌, ◌∙◌, ◌/◌, ◌%◌, arith, rules}
use Rattle.std.proofs.lemmas.List.{set-get_or}
use Rattle.sessions.proofs.Fields.{row_is}
use Rattle.sessions.proofs.row.Row.of.Goals as goal

pub returns : goal.returns
returns c =
    let a = c.args in
    let high : a.suite / 256 % 256 ≡ a.suite / 256 = omega arith in
    λ x. row_is x c.from.result a.ems a.suite c.to_be_bytes.result a.identifier.now a.secret.now _ _ c.from.ensures (c.to_be_bytes.ensures ∙ (rw high)) (search rules) c.requires.0 (search (rules, set-get_or))
