-- The whole blocks are worked, what is left waits in the block, and the padding goes behind it.
-- Assumes nothing.
use Rattle.std.proofs.Common.{◌≡◌, ℕ, ◌+◌, ◌*◌, ◌/◌, ◌%◌, ◌<◌, [], length, replicate, sym, ap, ◌∙◌, add-one, arith}
use Rattle.std.proofs.Math.Nat.{div-add-mod, mod-lt, zero-mod}
use Rattle.seqs.specs.Blocks.{after}
use Rattle.seqs.specs.Sha2.{step}
use Rattle.seqs.proofs.Blocks.{after_none, after_more}
use Rattle.seqs.proofs.Taking.{holds_none, holds_more}
use Rattle.fips180.specs.Kinds.{size}
use Rattle.fips180.specs.Layout.{value_of}
use Rattle.fips180.specs.Takes.{HoldsBytes}
use Rattle.fips180.proofs.Taken.{left_behind}
use Rattle.fips180.proofs.running.whole.Goals as goal

pub loop-i-init : goal.loop-i-init
loop-i-init g c = after_none (size g.W.Word.kind) (step g.W.Word.kind) _ _

pub loop-i-preserved : goal.loop-i-preserved
loop-i-preserved g c =
    let F = g.W.Word.kind in
    let i = c.loop-i.i in
    let e : c.block-size.result * i ≡ 0 + size F * i = ap (λ (n : ℕ). n * i) c.block-size.ensures ∙ omega arith in
    rw (c.work.ensures, c.loop-i.invariant, add-one) (after_more (size F) (step F) _ c.args.message.now 0 i _ e)

pub returns-clause-whole : goal.returns-clause-whole
returns-clause-whole g c room short =
    let F = g.W.Word.kind in
    let f = g.W.Word.number in
    let b = c.args.message.now in
    let first = value_of f c.args.v.now in
    let pos : 0 < size F = omega (arith, g.met.W.Word.narrow.0) in
    let parts = div-add-mod (length b) (size F) in
    let left = length b % c.block-size.result in
    let rest : left ≡ length b % size F = ap (λ (i : ℕ). length b % i) c.block-size.ensures in
    let turns : c.loop-i.i ≡ length b / size F = omega arith ∙ ap (λ (i : ℕ). length b / i) c.block-size.ensures in
    let few : left < size F = omega (arith, rest, mod-lt (length b) pos) in
    let zeros : c.fill.new.self ≡ replicate (size F) 0 = c.fill.ensures.after (λ y r. r) ∙ ap (λ (k : ℕ). replicate k 0) room in
    let sum : 0 + length b ≡ size F * (length b / size F) + left = omega (arith, parts, rest) in
    let laid = c.lay.ensures ∙ left_behind (size F) [] b c.fill.new.self (length b / size F) left sum (omega (arith, parts, rest)) zeros in
    let worked : value_of f c.loop-i.v ≡ after (size F) (step F) first (length b / size F) b = c.loop-i.invariant ∙ ap (λ (i : ℕ). after (size F) (step F) first i b) turns in
    let h : HoldsBytes F first (value_of f c.loop-i.v) c.lay.new.block (length b) b = holds_more (size F) pos (step F) first [] b (holds_none (size F) pos (step F) first) 0 (length b / size F) left (sym (zero-mod (size F))) (omega arith) sum few worked laid in
    c.end.ensures.ended (omega (arith, room)) short first b h
