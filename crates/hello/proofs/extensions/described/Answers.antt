-- What the extensions say, one answer after the other.
-- Assumes nothing.
use Rattle.std.proofs.Common.{sym, ◌∙◌, ap, arith}
use Rattle.std.specs.Int.{from_bool}
use Rattle.std.specs.Option.{is_some}
use Rattle.hello.specs.Extensions.{ri_kind}
use Rattle.hello.proofs.Entries.{data_fits}
use Rattle.hello.proofs.Flags.{bytes_or_none, described_is}
use Rattle.hello.proofs.extensions.described.Goals as goal

pub map-requires : goal.map-requires
map-requires c = λ x e. let l = c.args.list in omega (arith, data_fits ri_kind l.message.now l.at x l.within l.well_formed (sym c.data_of-ri.ensures ∙ e))

pub returns : goal.returns
returns c =
    let l = c.args.list in
    described_is l.message.now c.args.block l.at l.within l.well_formed
    c.from.ensures
    (c.from-2.ensures ∙ ap from_bool (c.is_some.ensures ∙ ap is_some c.data_of-ri.ensures))
    (rw c.data_of-ri.ensures at (bytes_or_none _ _ _ c.map.ensures.cases c.unwrap_or_default.ensures))
    (c.from-3.ensures ∙ ap from_bool (c.is_some-2.ensures ∙ ap is_some c.data_of.ensures))
    (c.from-4.ensures ∙ ap from_bool c.has_others.ensures)
