-- The number is a byte.
-- Assumes nothing.
use mathlib.Core.Path.{refl}
use native.Mathlib.Omega.{arith}
use Prim.Native.Nat.{◌<◌}
use Rattle.listing.specs.Texts.{column_of}
use Rattle.listing.proofs.Answers.{answered_most}
use borrow.Author.Rules.{rules}
use Rattle.listing.proofs.feed.answer.Goals as goal

pub returns : goal.returns
unfolding column_of
returns c =
    let r = c.args.refusal in
    let b : r.number < 256 = search rules in
    record { value = refl; short = answered_most r.number r.place (omega arith) }
