-- Sixteen words forward, one by one.
-- Assumes nothing.
use Rattle.std.proofs.Common.{◌≡◌, length, refl, ◌∙◌, arith, rules}
use Rattle.seqs.specs.Tab.{tab}
use Rattle.seqs.proofs.Rolling.{spread, onward, same_next}
use Rattle.fips180.proofs.Elements.{number_at}
use Rattle.fips180.proofs.words.rolled.Goals as goal

pub returns : goal.returns
unfolding tab
returns g c block t h w =
    let F = g.W.Word.kind in
    let n : length c.args.w ≡ 16 = search rules in
    let w16 = c.args.w in
    let f = g.W.Word.number in
    let r0 = spread F w (omega arith) in
    let r1 = onward F t 0 h (omega arith) r0 (c.next_word-a.ensures ∙ same_next F (number_at f w16 0 _ n (omega arith)) (number_at f w16 1 _ n (omega arith)) (number_at f w16 9 _ n (omega arith)) (number_at f w16 14 _ n (omega arith))) in
    let r2 = onward F t 1 h (omega arith) r1 (c.next_word-b.ensures ∙ same_next F (number_at f w16 1 _ n (omega arith)) (number_at f w16 2 _ n (omega arith)) (number_at f w16 10 _ n (omega arith)) (number_at f w16 15 _ n (omega arith))) in
    let r3 = onward F t 2 h (omega arith) r2 (c.next_word-c.ensures ∙ same_next F (number_at f w16 2 _ n (omega arith)) (number_at f w16 3 _ n (omega arith)) (number_at f w16 11 _ n (omega arith)) refl) in
    let r4 = onward F t 3 h (omega arith) r3 (c.next_word-d.ensures ∙ same_next F (number_at f w16 3 _ n (omega arith)) (number_at f w16 4 _ n (omega arith)) (number_at f w16 12 _ n (omega arith)) refl) in
    let r5 = onward F t 4 h (omega arith) r4 (c.next_word-e.ensures ∙ same_next F (number_at f w16 4 _ n (omega arith)) (number_at f w16 5 _ n (omega arith)) (number_at f w16 13 _ n (omega arith)) refl) in
    let r6 = onward F t 5 h (omega arith) r5 (c.next_word-f.ensures ∙ same_next F (number_at f w16 5 _ n (omega arith)) (number_at f w16 6 _ n (omega arith)) (number_at f w16 14 _ n (omega arith)) refl) in
    let r7 = onward F t 6 h (omega arith) r6 (c.next_word-g.ensures ∙ same_next F (number_at f w16 6 _ n (omega arith)) (number_at f w16 7 _ n (omega arith)) (number_at f w16 15 _ n (omega arith)) refl) in
    let r8 = onward F t 7 h (omega arith) r7 (c.next_word-h.ensures ∙ same_next F (number_at f w16 7 _ n (omega arith)) (number_at f w16 8 _ n (omega arith)) refl refl) in
    let r9 = onward F t 8 h (omega arith) r8 (c.next_word-i.ensures ∙ same_next F (number_at f w16 8 _ n (omega arith)) (number_at f w16 9 _ n (omega arith)) refl refl) in
    let r10 = onward F t 9 h (omega arith) r9 (c.next_word-j.ensures ∙ same_next F (number_at f w16 9 _ n (omega arith)) (number_at f w16 10 _ n (omega arith)) refl refl) in
    let r11 = onward F t 10 h (omega arith) r10 (c.next_word-k.ensures ∙ same_next F (number_at f w16 10 _ n (omega arith)) (number_at f w16 11 _ n (omega arith)) refl refl) in
    let r12 = onward F t 11 h (omega arith) r11 (c.next_word-l.ensures ∙ same_next F (number_at f w16 11 _ n (omega arith)) (number_at f w16 12 _ n (omega arith)) refl refl) in
    let r13 = onward F t 12 h (omega arith) r12 (c.next_word-m.ensures ∙ same_next F (number_at f w16 12 _ n (omega arith)) (number_at f w16 13 _ n (omega arith)) refl refl) in
    let r14 = onward F t 13 h (omega arith) r13 (c.next_word-n.ensures ∙ same_next F (number_at f w16 13 _ n (omega arith)) (number_at f w16 14 _ n (omega arith)) refl refl) in
    let r15 = onward F t 14 h (omega arith) r14 (c.next_word-o.ensures ∙ same_next F (number_at f w16 14 _ n (omega arith)) (number_at f w16 15 _ n (omega arith)) refl refl) in
    let r16 = onward F t 15 h (omega arith) r15 (c.next_word-p.ensures ∙ same_next F (number_at f w16 15 _ n (omega arith)) refl refl refl) in
    r16
