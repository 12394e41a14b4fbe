-- The extension block.
-- Assumes nothing.
use Rattle.std.proofs.Common.{◌≡◌, refl, sym, ◌∙◌, ap₂, false, true, List, ℕ, ◌+◌, arith}
use Rattle.hello.specs.Places.{extensions_at}
use Rattle.hello.specs.Cuts.{well_formed_at, list_at}
use Rattle.hello.proofs.Tries.{handed_on}
use Rattle.hello.proofs.Lists.{whole_end, list_end}
use Rattle.hello.proofs.Closings.{closing_none, closing_short, closing_other, closing_bad, closing_yes}
use Rattle.hello.proofs.extensions.read_block.Goals as goal

pub invariant_of-described : goal.invariant_of-described
invariant_of-described c =
    let a = c.args in
    record { within = omega arith; well_formed = whole_end a.message.now a.at (omega arith) }

pub returns-then-at-message : goal.returns-then-at-message
returns-then-at-message c =
    let a = c.args in
    let m = a.message.now in
    (false, omega arith, whole_end m a.at (omega arith), c.described.ensures, λ then. closing_none then m a.at (omega arith) ∙ (rw (list_end m a.at (omega arith))))

pub returns-then-message-at-lt2 : goal.returns-then-message-at-lt2
returns-then-message-at-lt2 c =
    let m = c.args.message.now in
    (_, λ then. closing_short then m c.args.at (omega arith) (omega arith), refl)

pub returns-then-pair-message : goal.returns-then-pair-message
returns-then-pair-message c =
    let a = c.args in
    (_, λ then. closing_other then a.message.now a.at c.pair.result c.pair.ensures.0 (omega arith) c.if-pair-message.true, refl)

pub returns-in_err-read : goal.returns-in_err-read
returns-in_err-read c =
    let a = c.args in
    let b = c.in_err-read.ensures in
    rw (handed_on c.from_residual.result _ c.from_residual.ensures.1)
    (b.0, λ then. closing_bad then a.message.now a.at c.pair.result c.pair.ensures.0 (omega arith) (omega arith) b.0 b.1, b.2)

pub returns : goal.returns
returns c =
    let a = c.args in
    let m = a.message.now in
    let l = c.in_ok-read.field-0 in
    let k = c.in_ok-read.ensures in
    let w : well_formed_at m (a.at + 2) ≡ true = ap₂ well_formed_at (sym k.0) (sym k.1) ∙ l.well_formed in
    (true, omega arith, w, c.described-2.ensures ∙ ap₂ (λ (n : List ℕ) (i : ℕ). extensions_at true i (list_at n i)) k.0 k.1, λ then. closing_yes then m a.at c.pair.result c.pair.ensures.0 (omega arith) (omega arith) w)
