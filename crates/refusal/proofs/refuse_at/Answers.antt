-- `refuse_at` answers the row of the table: each arm knows its number, and the last that it is none of those above.
-- Assumes nothing.
use mathlib.Core.Path.{refl, ◌∙◌}
use Rattle.std.proofs.Common.{rules}
use Rattle.refusal.proofs.Rows.{at_row, no_alert}
use Rattle.refusal.proofs.refuse_at.Goals as goal

pub returns-in-1 : goal.returns-in-1
returns-in-1 c = at_row _ c.in-1.is c.with_alert.ensures refl

pub returns-in-2 : goal.returns-in-2
returns-in-2 c = at_row _ c.in-2.is c.with_alert-in-2.ensures refl

pub returns-in-3 : goal.returns-in-3
returns-in-3 c = at_row _ c.in-3.is c.with_alert-in-3.ensures refl

pub returns-in-4 : goal.returns-in-4
returns-in-4 c = at_row _ c.in-4.is c.with_alert-in-4.ensures refl

pub returns-in-5 : goal.returns-in-5
returns-in-5 c = at_row _ c.in-5.is c.with_alert-in-5.ensures refl

pub returns-in-6 : goal.returns-in-6
returns-in-6 c = at_row _ c.in-6.is c.with_alert-in-6.ensures refl

pub returns-in-7 : goal.returns-in-7
returns-in-7 c = at_row _ c.in-7.is c.with_alert-in-7.ensures refl

pub returns-in-8 : goal.returns-in-8
returns-in-8 c = at_row _ c.in-8.is c.with_alert-in-8.ensures refl

pub returns-in-9 : goal.returns-in-9
returns-in-9 c = at_row _ c.in-9.is c.with_alert-in-9.ensures refl

pub returns-in-12 : goal.returns-in-12
returns-in-12 c = at_row _ c.in-12.is c.with_alert-in-12.ensures refl

pub returns-in_default : goal.returns-in_default
returns-in_default c = c.with_alert-in_default.ensures ∙ no_alert _ _ (search rules)
