-- The padding goes into the last block or the last two: what is left is the hash value.
-- Assumes nothing.
use Rattle.std.proofs.Common.{◌≡◌, ℕ, ◌-◌, ◌*◌, ◌/◌, ◌%◌, List, ◌++◌, length, take, replicate, sym, ap, ◌∙◌, ap₂, arith, take_all}
use Rattle.seqs.specs.Blocks.{after}
use Rattle.seqs.specs.Padding.{pad}
use Rattle.seqs.specs.Words.{big, in_bytes}
use Rattle.seqs.specs.Sha2.{Value, step}
use Rattle.seqs.specs.Taken.{sealed}
use Rattle.seqs.proofs.Ending.{finished_one, finished_two}
use Rattle.fips180.specs.Kinds.{size, field}
use Rattle.fips180.specs.Layout.{value_of}
use Rattle.fips180.proofs.running.end.Goals as goal
use Rattle.fips180.proofs.running.end.Goals.{then-last-at, else-last-at}

pub returns-clause-ended : goal.returns-clause-ended
returns-clause-ended g c room few_taken first m h =
    let F = g.W.Word.kind in
    let f = g.W.Word.number in
    let t = c.args.block.now in
    let at = c.args.taken % size F in
    let few = g.met.W.Word.narrow in
    let e : at ≡ length m % size F = ap (λ (i : ℕ). i % size F) h.counted in
    let same : c.args.taken % c.block-size.result ≡ at = ap (λ (i : ℕ). c.args.taken % i) c.block-size.ensures in
    let b : c.seal.new.block ≡ sealed (size F) t at = c.seal.ensures ∙ ap₂ (λ (i j : ℕ). sealed i t j) room same in
    let l = in_bytes big (field F) (8 * length m) in
    let bits : c.args.taken * 8 ≡ 8 * length m = omega (arith, h.counted) in
    let joined : step F (value_of f c.if-last-at.v) (take (size F - field F) c.if-last-at.block ++ l) ≡ after (size F) (step F) first (length (pad (size F) (field F) big m) / size F) (pad (size F) (field F) big m) =
    elim c.if-last-at.branch [
      | then-last-at w ↦
          let long : length c.seal.new.block ≡ size F = omega arith in
          ap₂ (λ (x : Value) (q : List ℕ). step F x (take (size F - field F) q ++ l))
          (ap (value_of f) w.v-is ∙ w.work.ensures ∙ ap (step F (value_of f c.args.v.now)) (take_all (size F) c.seal.new.block (omega arith) ∙ b))
          (w.block-is ∙ w.fill.ensures.after (λ y r. r) ∙ ap (λ (k : ℕ). replicate k 0) long)
          ∙ sym (finished_two (size F) (omega (arith, few.0)) (step F) first m h at e (field F) big (omega (arith, few.0)) (omega (arith, same, w.if-last-at.true)))
      | else-last-at w ↦
          ap₂ (λ (x : Value) (q : List ℕ). step F x (take (size F - field F) q ++ l)) (ap (value_of f) w.v-is) (w.block-is ∙ b)
          ∙ sym (finished_one (size F) (omega (arith, few.0)) (step F) first m h at e (field F) big (omega (arith, few.0)) (omega (arith, same, w.if-last-at.false)))
    ] in
    c.work-2.ensures
    ∙ ap (step F (value_of f c.if-last-at.v)) (take_all (size F) c.put_length.new.block (omega arith) ∙ c.put_length.ensures ∙ ap (λ (x : ℕ). take (size F - field F) c.if-last-at.block ++ in_bytes big (field F) x) bits)
    ∙ joined
