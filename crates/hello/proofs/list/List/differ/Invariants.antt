-- Up to the extension of this iteration no type stands before, and none of those compared with it has its type.
-- Assumes nothing.
use Rattle.std.proofs.Common.{◌≡◌, false, [], length, take, drop, Ok}
use Rattle.std.specs.List.{list_any}
use Rattle.hello.specs.Cuts.{list_at}
use Rattle.hello.specs.Entries.{entries_from}
use Rattle.hello.proofs.Entries.{first_repeat, same_kind}
use Rattle.hello.proofs.list.List.differ.Given as goal

abbrev pub invariant-all : goal.invariant-all
invariant-all l =
    let all = entries_from l.self.at (list_at l.self.message.now l.self.at) in
    record {
      none : l.answer ≡ Ok tt;
      left : first_repeat [] all ≡ first_repeat (take (length l.yielded) all) (drop (length l.yielded) all);
    }

abbrev pub invariant-loop-f : goal.invariant-loop-f
invariant-loop-f l =
    record {
      none : l.answer ≡ Ok tt;
      other : list_any (same_kind l.e.kind) l.yielded ≡ false;
    }
