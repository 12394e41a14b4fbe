-- What is printed.
-- Assumes nothing.
use Rattle.std.specs.Prelude.{List, [], ◌++◌, ℕ}
use Rattle.seqs.specs.Pick.{pick}
use Rattle.refusal.specs.Table.{placed}
use Rattle.cases.specs.Digits.{ascii, decimal}
use Rattle.listing.specs.declared.line.Column.{Column}
use Rattle.listing.specs.declared.line.Column.TheVariants.{Nothing, Number, Answer}

unfoldable pub header : List ℕ
header = ascii "message type log hello\n"

-- 'Bad contents print the header, then `contents refused`.'
unfoldable pub refused : List ℕ
refused = ascii "contents refused\n"

-- an answer, number n at place p. Order 9: '`loglist` prints it after the number with a colon, as `1:17`', the place of a 1 or 2; every
-- other number stands alone.
unfoldable pub answered : ℕ → ℕ → List ℕ
answered n p = decimal n ++ pick (placed n) (ascii ":" ++ decimal p) []

-- a column: a number, an answer, or a dash where there is none
unfoldable pub column_of : Column → List ℕ
column_of Nothing = ascii "-"
column_of (Number n) = decimal n
column_of (Answer n p) = answered n p

-- a line: the message's number, its type, the log's answer and the decision's
unfoldable pub printed : ℕ → Column → Column → Column → List ℕ
printed i kind log hello =
    decimal i ++ ascii " " ++ column_of kind ++ ascii " " ++ column_of log ++ ascii " " ++ column_of hello ++ ascii "\n"
