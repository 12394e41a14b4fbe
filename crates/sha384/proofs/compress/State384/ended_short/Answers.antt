-- Where there is room, the three pieces and the padding are laid out, and worked.
-- Assumes nothing.
use Rattle.std.proofs.Common.{◌+◌, ◌<◌, length, sym, ap, ◌∙◌, arith, leb-false, rules}
use Rattle.sha384.specs.Constants.{initial}
use Rattle.sha384.specs.Compress.{output}
use Rattle.sha384.specs.Sha384.{sha384}
use Rattle.sha384.proofs.compress.State384.ended_short.Goals as goal

pub returns-then-not-fits : goal.returns-then-not-fits
returns-then-not-fits c k h w =
    let a = c.args in
    let f : 239 < length a.a.now + (length a.b.now + length a.c.now) = leb-false _ 239 (sym c.fits.ensures ∙ c.if-not-fits.true) in
    absurd (omega arith)

pub returns : goal.returns
unfolding sha384
returns c k h w = c.output.ensures ∙ ap output (c.end_short.ensures.ended (search rules) (omega (arith, w)) initial k h.whole (c.from-v.ensures ∙ h.value))
