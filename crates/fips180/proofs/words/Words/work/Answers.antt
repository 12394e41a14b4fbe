-- One block, from what the calls ensure.
-- Assumes nothing.
use Rattle.std.proofs.Common.{◌≡◌, ℕ, ◌+◌, ◌*◌, List, take, drop, sym, ap, ◌∙◌, subst}
use Rattle.seqs.specs.Sha2.{step, plus, schedule, rounds}
use Rattle.seqs.specs.Ring.{Ring}
use Rattle.seqs.proofs.Rolling.{begins, summed}
use Rattle.fips180.specs.Layout.{value_of}
use Rattle.fips180.proofs.words.Words.work.Goals as goal

pub returns : goal.returns
unfolding step
returns g c =
    let F = g.W.Word.kind in
    let b = take (16 * F.bytes) (drop c.args.at c.args.b.now) in
    let r : value_of g.W.Word.number c.all_rounds-v.result ≡ rounds F (F.more + 16) (value_of g.W.Word.number c.args.self.now) (schedule F F.more b) = c.all_rounds-v.ensures b (subst (λ (w : List ℕ). Ring F w b 0) (sym c.load.ensures) (begins F b)) in
    summed F (value_of g.W.Word.number c.args.self.now) (value_of g.W.Word.number c.all_rounds-v.result) c.add.ensures c.add-2.ensures c.add-3.ensures c.add-4.ensures c.add-5.ensures c.add-6.ensures c.add-7.ensures c.add-8.ensures
    ∙ ap (plus F (value_of g.W.Word.number c.args.self.now)) r
