-- A suite in a list of suites.
-- Assumes nothing.
use Rattle.std.proofs.Common.{◌∙◌, List, ℕ, eqb, rules, tests}
use Rattle.std.proofs.lemmas.Iterator.Search.{any_from_yields_List}
use Rattle.message.specs.Numbers.{pair_at}
use Rattle.hello.proofs.Pairs.{YieldsList-from_pairs, lists_any}
use Rattle.hello.proofs.suites.lists_suite.Goals as goal

pub returns : goal.returns
returns c =
    let a = c.args in
    any_from_yields_List (λ (x : List ℕ). eqb (pair_at x 0) a.suite) c.any.new.self _ c.any.result c.any.ensures.ran
    (YieldsList-from_pairs a.suites.now c.chunks_exact.ensures.rest c.chunks_exact.ensures.size)
    (λ x b q k. search (rules, tests))
    ∙ lists_any a.suite a.suites.now
