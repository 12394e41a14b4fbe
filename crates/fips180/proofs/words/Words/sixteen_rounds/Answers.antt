-- Each round of a turn finds its word in the ring and its constant.
-- Assumes nothing.
use Rattle.std.proofs.Common.{◌≡◌, ℕ, ◌+◌, ◌*◌, ◌≤◌, length, get_or, ap, ◌∙◌, arith, rules}
use Rattle.seqs.specs.Sha2.{schedule, rounds}
use Rattle.seqs.proofs.Rolling.{round_more}
use Rattle.fips180.specs.Layout.{value_of}
use Rattle.fips180.proofs.Elements.{number_at}
use Rattle.fips180.proofs.words.Words.sixteen_rounds.Goals as goal

pub returns : goal.returns
returns g c s block ring h =
    let F = g.W.Word.kind in
    let f = g.W.Word.number in
    let turn = c.args.turn in
    let t = 16 * turn in
    let g' : t ≤ F.more = omega arith in
    let n : length c.args.w ≡ 16 = search rules in
    let z : t ≡ t + 0 = omega arith in
    let v0 : value_of f c.args.self ≡ rounds F (t + 0) s (schedule F F.more block) = h ∙ ap (λ (i : ℕ). rounds F i s (schedule F F.more block)) z in
    let v1 = round_more F s turn 0 g' (omega arith) ring (c.constant.ensures ∙ ap (λ (i : ℕ). get_or F.ks i 0) z) (number_at f c.args.w 0 _ n (omega arith)) v0 c.round-r.ensures in
    let v2 = round_more F s turn 1 g' (omega arith) ring c.constant-2.ensures (number_at f c.args.w 1 _ n (omega arith)) v1 c.round-r-2.ensures in
    let v3 = round_more F s turn 2 g' (omega arith) ring c.constant-3.ensures (number_at f c.args.w 2 _ n (omega arith)) v2 c.round-r-3.ensures in
    let v4 = round_more F s turn 3 g' (omega arith) ring c.constant-4.ensures (number_at f c.args.w 3 _ n (omega arith)) v3 c.round-r-4.ensures in
    let v5 = round_more F s turn 4 g' (omega arith) ring c.constant-5.ensures (number_at f c.args.w 4 _ n (omega arith)) v4 c.round-r-5.ensures in
    let v6 = round_more F s turn 5 g' (omega arith) ring c.constant-6.ensures (number_at f c.args.w 5 _ n (omega arith)) v5 c.round-r-6.ensures in
    let v7 = round_more F s turn 6 g' (omega arith) ring c.constant-7.ensures (number_at f c.args.w 6 _ n (omega arith)) v6 c.round-r-7.ensures in
    let v8 = round_more F s turn 7 g' (omega arith) ring c.constant-8.ensures (number_at f c.args.w 7 _ n (omega arith)) v7 c.round-r-8.ensures in
    let v9 = round_more F s turn 8 g' (omega arith) ring c.constant-9.ensures (number_at f c.args.w 8 _ n (omega arith)) v8 c.round-r-9.ensures in
    let v10 = round_more F s turn 9 g' (omega arith) ring c.constant-10.ensures (number_at f c.args.w 9 _ n (omega arith)) v9 c.round-r-10.ensures in
    let v11 = round_more F s turn 10 g' (omega arith) ring c.constant-11.ensures (number_at f c.args.w 10 _ n (omega arith)) v10 c.round-r-11.ensures in
    let v12 = round_more F s turn 11 g' (omega arith) ring c.constant-12.ensures (number_at f c.args.w 11 _ n (omega arith)) v11 c.round-r-12.ensures in
    let v13 = round_more F s turn 12 g' (omega arith) ring c.constant-13.ensures (number_at f c.args.w 12 _ n (omega arith)) v12 c.round-r-13.ensures in
    let v14 = round_more F s turn 13 g' (omega arith) ring c.constant-14.ensures (number_at f c.args.w 13 _ n (omega arith)) v13 c.round-r-14.ensures in
    let v15 = round_more F s turn 14 g' (omega arith) ring c.constant-15.ensures (number_at f c.args.w 14 _ n (omega arith)) v14 c.round-r-15.ensures in
    let v16 = round_more F s turn 15 g' (omega arith) ring c.constant-16.ensures (number_at f c.args.w 15 _ n (omega arith)) v15 c.round.ensures in
    v16
