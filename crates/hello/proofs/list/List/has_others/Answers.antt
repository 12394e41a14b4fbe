-- A type other than the two that are known, by the chain over the extensions.
-- Assumes nothing.
use Rattle.std.proofs.Common.{refl, not, ◌∙◌, rules, tests}
use Rattle.std.proofs.lemmas.Iterator.Consumers.{YieldsList-from_first}
use Rattle.std.proofs.lemmas.Iterator.Search.{any_from_yields_List}
use Rattle.hello.specs.Extensions.{known_kind}
use Rattle.hello.specs.Cuts.{list_at}
use Rattle.hello.specs.Entries.{entries_from}
use Rattle.hello.specs.declared.list.List.{List}
use Rattle.hello.specs.declared.walk.Entry.{Entry}
use Rattle.hello.proofs.Entries.{others_found}
use Rattle.hello.proofs.list.List.has_others.Goals as goal

pub returns : goal.returns
returns c =
    let s = c.args.self in
    any_from_yields_List (λ (e : Entry). not (known_kind e.kind)) c.any.new.self _ c.any.result c.any.ensures.ran
    (YieldsList-from_first (λ (x : Entry). x) (λ (l : List). entries_from l.at (list_at l.message.now l.at)) _ refl)
    (λ x b q k. search (rules, tests))
    ∙ others_found s.at (list_at s.message.now s.at)
