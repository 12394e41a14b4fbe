-- How many bytes a ServerHello has.
-- Assumes nothing.
use Rattle.std.proofs.Common.{sym, ap, ◌∙◌, not, arith}
use Rattle.writing.proofs.Sizing.{first_size, second_size, opens_bound}
use Rattle.writing.proofs.sizes.server_size.Goals as goal

pub returns-then-not-is_bounded : goal.returns-then-not-is_bounded
returns-then-not-is_bounded c = first_size _ _ _ (sym c.is_bounded.ensures ∙ ap not c.if-not-is_bounded.true)

pub whole_size-requires : goal.whole_size-requires
whole_size-requires c = omega (arith, opens_bound _ _ (sym c.is_bounded.ensures ∙ ap not c.if-not-is_bounded.false))

pub returns : goal.returns
returns c = second_size _ _ _ (sym c.is_bounded.ensures ∙ ap not c.if-not-is_bounded.false) c.whole_size.ensures
