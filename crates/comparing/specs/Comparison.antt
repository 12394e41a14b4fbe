-- Document 02, order 8: all that `casediff` prints. 'It prints one line per difference in message order, then as listed: `3 first` or
-- `3 second`, `3 byte 17`, `3 field suites`, `3 extension 23`.'
-- Assumes nothing.
use Rattle.std.specs.Prelude.{List, [], ◌∷◌, ◌++◌, ℕ}
use Rattle.seqs.specs.Pick.{pick}
use Rattle.cases.specs.Contents.{good_case}
use Rattle.cases.specs.Digits.{ascii, decimal}
use Rattle.comparing.specs.Differences.{How, first, second, byte, field, extension, Difference, differences}

-- a line: the message's number, a word, and what the word is of
unfoldable pub line : ℕ → List ℕ → List ℕ → List ℕ
line i word of = decimal i ++ ascii " " ++ word ++ of ++ ascii "\n"

unfoldable pub line_of : Difference → List ℕ
line_of d = said d.how
  where
    said : How → List ℕ
    said first = line d.message (ascii "first") []
    said second = line d.message (ascii "second") []
    said (byte p) = line d.message (ascii "byte ") (decimal p)
    said (field name) = line d.message (ascii "field ") name
    said (extension t) = line d.message (ascii "extension ") (decimal t)

-- 'one line per difference'
unfoldable pub text : List Difference → List ℕ
text [] = []
text (d ∷ ds) = line_of d ++ text ds

unfoldable pub first_refused : List ℕ
first_refused = ascii "first refused\n"

unfoldable pub second_refused : List ℕ
second_refused = ascii "second refused\n"

-- 'Refusals: bad contents .., the first case judged first: only `first refused` or `second refused`.'
unfoldable pub comparison : List ℕ → List ℕ → List ℕ
comparison a b = pick (good_case a) (pick (good_case b) (text (differences a b)) second_refused) first_refused
