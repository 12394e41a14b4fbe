-- The list of extensions that a lent list is.
-- Assumes nothing.
use Rattle.std.specs.Prelude.{List, ℕ, ◌+◌, ◌*◌, length}
use Rattle.hello.specs.Extensions.{Extension}
use Rattle.writing.specs.Lists.{extensions_from}
use Rattle.writing.specs.declared.lists.List as rust

abbrev pub lent : rust.List → List Extension
lent l = extensions_from l.types.now l.lengths.now l.«data».now

-- how many bytes it takes
abbrev pub list_size : rust.List → ℕ
list_size l = 4 * length l.types.now + length l.«data».now
