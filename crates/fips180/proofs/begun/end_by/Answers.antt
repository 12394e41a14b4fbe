-- The last block is laid out, and worked.
-- Assumes nothing.
use Rattle.std.proofs.Common.{◌≡◌, ℕ, ◌+◌, ◌-◌, ◌*◌, List, ◌∷◌, ◌++◌, length, take, replicate, sym, ap, ◌∙◌, ap₂, refl, append_assoc, arith, take_all}
use Rattle.std.proofs.lemmas.List.Edits.{length-paste}
use Rattle.seqs.specs.Words.{big, in_bytes}
use Rattle.seqs.specs.Sha2.{step}
use Rattle.seqs.specs.Taken.{sealed}
use Rattle.seqs.proofs.FirstBlock.{ends_by, last_block, length_last_block}
use Rattle.fips180.specs.Kinds.{size, field}
use Rattle.fips180.specs.Layout.{value_of}
use Rattle.fips180.proofs.Laid.{take_laid, sealed_by, front}
use Rattle.fips180.proofs.begun.end_by.Goals as goal

pub returns-clause-ended : goal.returns-clause-ended
returns-clause-ended g c room short first k whole taken =
    let F = g.W.Word.kind in
    let n = size F in
    let d = c.args.d.now in
    let z = n - (length d + 1 + field F) in
    let few = g.met.W.Word.narrow in
    let l = in_bytes big (field F) (8 * (n + length d)) in
    let b = c.lay.new.block in
    let long : length b ≡ n = ap length c.lay.ensures ∙ length-paste c.args.block.now 0 d (length d) (omega arith) (omega arith) ∙ room in
    let at : take (length d) b ≡ d = ap (take (length d)) c.lay.ensures ∙ take_laid c.args.block.now d (omega arith) in
    let x : c.seal.new.block ≡ d ++ (128 ∷ replicate (n - length d - 1) 0) = c.seal.ensures ∙ ap (λ (i : ℕ). sealed i b (length d)) long ∙ sealed_by n b d (length d) at in
    let laid : c.put_length.new.block ≡ last_block n (field F) big d =
    c.put_length.ensures
    ∙ ap₂ (λ (l : List ℕ) (i : ℕ). take (n - field F) l ++ in_bytes big (field F) (8 * (i + length d))) x c.block-size.ensures
    ∙ ap (λ (p : List ℕ). p ++ l) (front n d (length d) z (n - field F) refl (omega arith) (omega arith))
    ∙ append_assoc d (128 ∷ replicate z 0) l in
    let all : length c.put_length.new.block ≡ n = ap length laid ∙ length_last_block n (field F) big d (omega arith) in
    c.work.ensures
    ∙ ap (step F (value_of g.W.Word.number c.args.v.now)) (take_all n c.put_length.new.block (omega (arith, all)) ∙ laid)
    ∙ sym (ends_by n (omega (arith, few.0)) (step F) first whole taken d (field F) big (omega arith))
