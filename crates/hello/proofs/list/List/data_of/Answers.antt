-- The first extension of a type, by the chain over them.
-- Assumes nothing.
use Rattle.std.proofs.Common.{◌≡◌, refl, sym, eqb, ap, ◌∙◌, option_map, rules, tests}
use Rattle.std.proofs.lemmas.Iterator.Consumers.{YieldsList-from_first}
use Rattle.std.proofs.lemmas.Iterator.Search.{find_from_yields_List}
use Rattle.std.proofs.lemmas.Iterator.Adapters.{option_map_id}
use Rattle.hello.specs.Cuts.{list_at}
use Rattle.hello.specs.Entries.{entries_from}
use Rattle.hello.specs.declared.list.List.{List}
use Rattle.hello.specs.declared.walk.Entry.{Entry}
use Rattle.hello.proofs.Entries.{data_found}
use Rattle.hello.proofs.list.List.data_of.Goals as goal

pub returns : goal.returns
returns c =
    let road = YieldsList-from_first (λ (x : Entry). x) (λ (l : List). entries_from l.at (list_at l.message.now l.at)) {s = c.args.self} _ refl in
    let f = find_from_yields_List (λ (e : Entry). eqb e.kind c.args.kind) c.find.new.self _ c.find.result c.find.ensures.ran road (λ x b q k. search (rules, tests)) in
    let g : c.map.result ≡ option_map (λ (e : Entry). e.«data») c.find.result = search rules in
    g ∙ ap (option_map (λ (e : Entry). e.«data»)) (sym (option_map_id c.find.result) ∙ f) ∙ data_found c.args.kind c.args.self.at (list_at c.args.self.message.now c.args.self.at)
