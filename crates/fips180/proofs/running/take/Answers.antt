-- What is taken goes behind what waits: no block is full, or one is completed in the tail where some wait there, and the others lie in
-- the new bytes.
-- Assumes nothing.
use Rattle.std.proofs.Common.{◌≡◌, ℕ, suc, ◌+◌, ◌-◌, ◌*◌, ◌/◌, ◌%◌, ◌<◌, ◌≤◌, List, ◌++◌, length, take, drop, replicate, sym, ap, ◌∙◌, ap₂, refl, arith, length-take-le}
use lib.Seq.{paste}
use Rattle.std.proofs.Math.Nat.{div-add-mod, div-eq_of_lt, mod-lt, mul-zero, mul-suc}
use Rattle.seqs.specs.Blocks.{after}
use Rattle.seqs.specs.Sha2.{Value, step}
use Rattle.seqs.proofs.Blocks.{after_none}
use Rattle.seqs.proofs.Taking.{none_waits, holds_more, short_tail, first_block}
use Rattle.fips180.specs.Kinds.{size}
use Rattle.fips180.specs.Layout.{value_of}
use Rattle.fips180.specs.Takes.{HoldsBytes}
use Rattle.fips180.proofs.Taken.{filled_up, left_behind, takes}
use Rattle.fips180.proofs.running.take.Goals as goal
use Rattle.fips180.proofs.running.take.Goals.{then-at-gt0, else-at-gt0}

pub returns-then-n-size-clause-taken : goal.returns-then-n-size-clause-taken
returns-then-n-size-clause-taken g c room first =
    let F = g.W.Word.kind in
    let b = c.args.bytes.now in
    let t = c.args.tail.now in
    let at = c.args.taken % size F in
    let pos : 0 < size F = omega (arith, g.met.W.Word.narrow.0) in
    let same : c.args.taken % c.block-size.result ≡ at = ap (λ (i : ℕ). c.args.taken % i) c.block-size.ensures in
    let lt : at + length b < size F = omega (arith, same, c.if-n-size.true, c.block-size.ensures) in
    record {
      runs =
          λ m h.
          let e : at ≡ length m % size F = ap (λ (i : ℕ). i % size F) h.counted in
          holds_more (size F) pos (step F) first m b h at 0 (at + length b) e refl (omega (arith, mul-zero (size F))) lt
          (after_none (size F) (step F) _ _)
          (c.lay.ensures ∙ ap (λ (i : ℕ). paste t i b (length b)) same ∙ short_tail (size F) pos m b at h.waits e lt ∙ ap (λ (i : ℕ). drop i (take at t ++ b) ++ replicate (size F - (at + length b)) 0) (sym (mul-zero (size F))));
      counts = sym (div-eq_of_lt lt);
      long = omega (arith, room);
    }

pub returns-clause-taken : goal.returns-clause-taken
returns-clause-taken g c room first =
    let F = g.W.Word.kind in
    let f = g.W.Word.number in
    let b = c.args.bytes.now in
    let t = c.args.tail.now in
    let at = c.args.taken % size F in
    let pos : 0 < size F = omega (arith, g.met.W.Word.narrow.0) in
    let same : c.args.taken % c.block-size.result ≡ at = ap (λ (i : ℕ). c.args.taken % i) c.block-size.ensures in
    let left = (length b - c.if-at-gt0.from) % c.block-size.result in
    let lt : at < size F = mod-lt c.args.taken pos in
    let enough : size F - at ≤ length b = omega (arith, same, c.if-n-size.false, c.block-size.ensures) in
    let parts = div-add-mod (length b - c.if-at-gt0.from) (size F) in
    let rest : left ≡ (length b - c.if-at-gt0.from) % size F = ap (λ (i : ℕ). (length b - c.if-at-gt0.from) % i) c.block-size.ensures in
    let few : left < size F = omega (arith, rest, mod-lt (length b - c.if-at-gt0.from) pos) in
    let p : length (take at t) ≡ at = length-take-le at t (omega (arith, room)) in
    let q = (length b - c.if-at-gt0.from) / size F in
    elim c.if-at-gt0.branch [
      | then-at-gt0 w ↦
          let from : c.if-at-gt0.from ≡ size F - at = omega (arith, w.from-is, same, c.block-size.ensures) in
          let laid : w.lay-then-at-gt0.new.block ≡ paste t at b (size F - at) = w.lay-then-at-gt0.ensures ∙ ap₂ (λ (i n : ℕ). paste t i (take (n - i) b) (length (take (n - i) b))) same c.block-size.ensures ∙ filled_up (size F) at t b enough in
          let worked : value_of f w.work.new.self ≡ step F (value_of g.W.Word.number c.args.v.now) (take (size F) (paste t at b (size F - at))) = w.work.ensures ∙ ap (λ (l : List ℕ). step F (value_of f c.args.v.now) (take (size F) l)) laid in
          let long : length w.lay-then-at-gt0.new.block ≡ size F = omega (arith, room) in
          let zeros : c.if-at-gt0.tail ≡ replicate (size F) 0 = w.tail-is ∙ w.fill.ensures.after (λ y r. r) ∙ ap (λ (k : ℕ). replicate k 0) long in
          let sum : at + length b ≡ size F * suc q + left = omega (arith, parts, rest, from, mul-suc (size F) q) in
          takes F first b (suc q) left pos sum few
          (first_block (size F) pos (step F) first _ _ _ t b at q room lt (omega arith) worked
          (c.blocks-2.ensures.0 ∙ ap₂ (λ (x : Value) (i : ℕ). after (size F) (step F) x q (drop i b)) (ap (value_of f) w.v-is) from))
          (λ m h. c.lay-2.ensures ∙ left_behind (size F) (take at t) b c.if-at-gt0.tail (suc q) left (omega (arith, p, sum)) (omega (arith, parts, rest)) zeros)
          (omega (arith, room))
          (omega (arith, c.blocks-2.ensures.1, w.count-is))
      | else-at-gt0 w ↦
          let none : at ≡ 0 = omega (arith, same, w.if-at-gt0.false) in
          let sum : at + length b ≡ size F * q + left = omega (arith, parts, rest, w.from-is, none) in
          -- nothing waits, so the tail of a running hash is blank
          let blank : (m : List ℕ) → HoldsBytes F first (value_of f c.args.v.now) t c.args.taken m → c.if-at-gt0.tail ≡ replicate (size F) 0 =
          (λ m h. w.tail-is ∙ h.waits ∙ none_waits (size F) pos m (sym (ap (λ (i : ℕ). i % size F) h.counted) ∙ none)) in
          takes F first b q left pos sum few
          (c.blocks-2.ensures.0 ∙ ap₂ (λ (x : Value) (i : ℕ). after (size F) (step F) x q (drop i b)) (ap (value_of f) w.v-is) w.from-is
          ∙ ap (λ (i : ℕ). after (size F) (step F) (value_of g.W.Word.number c.args.v.now) q (take i t ++ b)) (sym none))
          (λ m h. c.lay-2.ensures ∙ left_behind (size F) (take at t) b c.if-at-gt0.tail q left (omega (arith, p, sum)) (omega (arith, parts, rest)) (blank m h))
          (omega (arith, room))
          (omega (arith, c.blocks-2.ensures.1, w.count-is))
    ]
