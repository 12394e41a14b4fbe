-- How many bytes a ClientHello has.
-- Assumes nothing.
use Rattle.std.proofs.Common.{sym, ap, ◌∙◌, not, arith}
use Rattle.writing.proofs.Sizing.{opens_bound, offers_bound}
use Rattle.writing.proofs.sizes.client_size.Goals as goal

pub overflow_add-opening-2 : goal.overflow_add-opening-2
overflow_add-opening-2 c =
    let o = opens_bound _ _ (sym c.is_bounded.ensures ∙ ap not c.if-not-is_bounded.false) in
    let f = offers_bound _ _ (sym c.offers.ensures ∙ ap not c.if-not-offers.false) in
    omega (arith, o, f)

pub overflow_add-opening-3 : goal.overflow_add-opening-3
overflow_add-opening-3 c =
    let o = opens_bound _ _ (sym c.is_bounded.ensures ∙ ap not c.if-not-is_bounded.false) in
    let f = offers_bound _ _ (sym c.offers.ensures ∙ ap not c.if-not-offers.false) in
    omega (arith, o, f)

pub whole_size-requires : goal.whole_size-requires
whole_size-requires c =
    let o = opens_bound _ _ (sym c.is_bounded.ensures ∙ ap not c.if-not-is_bounded.false) in
    let f = offers_bound _ _ (sym c.offers.ensures ∙ ap not c.if-not-offers.false) in
    omega (arith, o, f)
