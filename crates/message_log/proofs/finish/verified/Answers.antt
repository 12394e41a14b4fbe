-- A secret of 48 bytes is not refused.
-- Assumes nothing.
use mathlib.Core.Path.{sym, ◌∙◌}
use Rattle.message_log.proofs.Finishing.{not_refused}
use Rattle.message_log.proofs.finish.verified.Goals as goal

pub unwrap-requires : goal.unwrap-requires
unwrap-requires g c = rw (not_refused _ _ _ _ c.verify_data.result c.requires c.verify_data.ensures)

pub returns : goal.returns
returns g c =
    let e = sym c.unwrap.ensures ∙ not_refused _ _ _ _ c.verify_data.result c.requires c.verify_data.ensures in cc
