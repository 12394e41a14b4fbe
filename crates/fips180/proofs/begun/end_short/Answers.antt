-- The three pieces and the padding are laid out, in one block or in two, and worked.
-- Assumes nothing.
use Rattle.std.proofs.Common.{◌≡◌, ℕ, ◌+◌, ◌-◌, ◌*◌, ◌∷◌, ◌++◌, length, take, drop, replicate, ap, ◌∙◌, ap₂, arith, length-append}
use borrow.Rule.Slice.PartMut.{put_mid}
use Rattle.seqs.specs.Words.{big, in_bytes}
use Rattle.seqs.specs.Sha2.{Value, step}
use Rattle.fips180.specs.Kinds.{size, field}
use Rattle.fips180.specs.Layout.{value_of}
use Rattle.fips180.proofs.Laid.{pieces, in_one, in_two}
use Rattle.fips180.proofs.begun.end_short.Goals as goal

pub returns-then-n-size-clause-ended : goal.returns-then-n-size-clause-ended
returns-then-n-size-clause-ended g c room short first k whole taken =
    let F = g.W.Word.kind in
    let a = c.args in
    let n = length a.a.now + length a.b.now + length a.c.now in
    let few = g.met.W.Word.narrow.0 in
    let d = a.a.now ++ (a.b.now ++ a.c.now) in
    let m : length d ≡ n = simp length-append (omega arith) in
    let b = c.seal.new.block in
    let laid : b ≡ d ++ (128 ∷ replicate (2 * size F - n - 1) 0) = c.seal.ensures ∙ pieces (2 * size F) a.a.now a.b.now a.c.now a.blocks.now room c.lay.ensures c.lay-2.ensures c.lay-3.ensures (omega (arith, short, few)) in
    let bs = c.block-size.ensures in
    c.work.ensures
    ∙ ap (λ (i : ℕ). step F (value_of g.W.Word.number a.v.now) (take (size F) (c.put_length.new.block ++ drop i b))) bs
    ∙ in_one F few first k whole taken d n m laid (omega (arith, bs, c.field-field.ensures, c.if-n-size.true))
    (c.put_length.ensures ∙ ap (λ (i : ℕ). take (size F - field F) (take i b) ++ in_bytes big (field F) (8 * (i + n))) bs)

pub returns-clause-ended : goal.returns-clause-ended
returns-clause-ended g c room short first k whole taken =
    let F = g.W.Word.kind in
    let a = c.args in
    let n = length a.a.now + length a.b.now + length a.c.now in
    let few = g.met.W.Word.narrow.0 in
    let d = a.a.now ++ (a.b.now ++ a.c.now) in
    let m : length d ≡ n = simp length-append (omega arith) in
    let b = c.seal.new.block in
    let laid : b ≡ d ++ (128 ∷ replicate (2 * size F - n - 1) 0) = c.seal.ensures ∙ pieces (2 * size F) a.a.now a.b.now a.c.now a.blocks.now room c.lay.ensures c.lay-2.ensures c.lay-3.ensures (omega (arith, short, few)) in
    let bs = c.block-size.ensures in
    let long : length b ≡ 2 * size F = omega (arith, room) in
    let new = c.put_length-2.new.block in
    c.work-3.ensures
    ∙ ap₂ (λ (v : Value) (i : ℕ). step F v (take (size F) (drop i (put_mid i (length b - i) b new)))) (c.work-2.ensures ∙ ap (λ (i : ℕ). step F (value_of g.W.Word.number a.v.now) (take (size F) (put_mid i (length b - i) b new))) bs) bs
    ∙ in_two F few first k whole taken d n m laid (omega (arith, bs, c.field-field.ensures, c.if-n-size.false)) (omega (arith, short)) long
    (c.put_length-2.ensures ∙ ap (λ (i : ℕ). take (size F - field F) (take (length b - i) (drop i b)) ++ in_bytes big (field F) (8 * (i + n))) bs)
