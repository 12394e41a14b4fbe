-- The extension at a place: each way out is one case of the definition.
-- Assumes nothing.
use Rattle.std.proofs.Common.{◌≡◌, rules, sym, ◌∙◌, arith}
use Rattle.hello.specs.Next.{no_next}
use Rattle.hello.proofs.Entries.{entry_read, cut_next, end_is}
use Rattle.hello.proofs.Handed.{next_none, next_read}
use Rattle.hello.proofs.next.next_extension.Goals as goal

pub returns-in-Err : goal.returns-in-Err
returns-in-Err c =
    let n : c.default.result ≡ no_next = search rules in
    n ∙ sym (next_none _ _ (cut_next _ _ _ (sym c.read_entry.ensures.value ∙ c.in-Err.is)))

pub returns-in-Ok : goal.returns-in-Ok
returns-in-Ok c =
    let h = sym c.read_entry.ensures.value ∙ c.in-Ok.is in
    next_read _ _ _ h _ (omega (arith, c.end.ensures, end_is _ _ _ (entry_read _ _ _ h)))
