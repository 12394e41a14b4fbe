-- The first byte, if there is one.
-- Assumes nothing.
use Rattle.std.proofs.Common.{arith, sym}
use Rattle.listing.proofs.Columns.{kind_none, kind_some, dash_most, kind_most}
use Rattle.listing.proofs.feed.kind.Goals as goal

pub returns-in-empty : goal.returns-in-empty
returns-in-empty c = record { value = sym (kind_none _ (omega arith)); short = dash_most 3 (omega arith) }

pub returns-in-len1-up : goal.returns-in-len1-up
returns-in-len1-up c =
    record { value = sym (kind_some _ (λ e. omega arith)); short = kind_most _ (omega (arith, c.type_inv.message 0)) }
