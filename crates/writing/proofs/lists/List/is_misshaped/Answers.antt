-- The shapes, by the chain over the extensions.
-- Assumes nothing.
use Rattle.std.proofs.Common.{refl, not, List, ℕ, Bor, ◌∙◌, rules, tests}
use Rattle.std.proofs.lemmas.Iterator.Consumers.{YieldsList-from_first}
use Rattle.std.proofs.lemmas.Iterator.Search.{any_from_yields_List}
use Rattle.hello.specs.Extensions.{Extension, shaped}
use Rattle.writing.specs.Lists.{extension_of, extensions_from}
use Rattle.writing.specs.declared.lists.List as rust
use Rattle.writing.proofs.Walking.{shapes_any}
use Rattle.writing.proofs.lists.List.is_misshaped.Goals as goal

pub returns : goal.returns
returns c =
    let s = c.args.self in
    any_from_yields_List (λ (e : Extension). not (shaped e.kind e.content)) c.any.new.self _ c.any.result c.any.ensures.ran
    (YieldsList-from_first (λ (x : ℕ × Bor (List ℕ)). extension_of x.0 x.1.now) (λ (l : rust.List). extensions_from l.types.now l.lengths.now l.«data».now) _ refl)
    (λ x b q k. search (rules, tests))
    ∙ shapes_any (extensions_from s.types.now s.lengths.now s.«data».now)
