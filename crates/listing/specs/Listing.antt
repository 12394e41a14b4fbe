-- Document 01, 'Program loglist': all that it prints.
-- Assumes nothing.
use Rattle.std.specs.Prelude.{◌&&◌, List, [], ◌∷◌, ◌++◌, ℕ, ◌+◌, eqb, replicate}
use Rattle.seqs.specs.Pick.{pick}
use Rattle.refusal.specs.Table.{refusal_at}
use Rattle.refusal.specs.declared.Refusal.{Refusal}
use Rattle.message.specs.Frame.{kind_of}
use Rattle.transcript.specs.Choice.Algorithm.{sha_256}
use Rattle.message_log.specs.Told.{full}
use Rattle.message_log.specs.History.History.{fresh}
use Rattle.message_log.specs.Standing.{Standing}
use Rattle.message_log.specs.Standing.Standing.{whole}
use Rattle.message_log.specs.Calls.{is_finished, broken_at, accept_number, after_accept}
use Rattle.message_log.specs.Finish.{finish_number, after_finish}
use Rattle.hello.specs.Fields.{read_client}
use Rattle.sessions.specs.Book.{empty}
use Rattle.decision.specs.Connection.{fresh_connection}
use Rattle.decision.specs.Server.{session_in, server_decision}
use Rattle.decision.specs.declared.connection.Switches.{Switches}
use Rattle.decision.specs.declared.connection.Decision.{Decision}
use Rattle.cases.specs.Contents.{good_case, bodies_of}
use Rattle.listing.specs.Texts.{header, refused, printed}
use Rattle.listing.specs.declared.line.Column.{Column}
use Rattle.listing.specs.declared.line.Column.TheVariants.{Nothing, Number, Answer}

-- 'An empty body has type `-`.'
unfoldable pub kind_column : List ℕ → Column
kind_column [] = Nothing
kind_column (kind ∷ rest) = Number kind

-- 'all switches off'
abbrev pub all_off : Switches
all_off = record { indication_required = 0; legacy_full = 0; legacy_resumption = 0 }

-- 'the server decision (axle 1, empty table, fresh record, all switches off)', lent as many bytes as the longest reply has
unfoldable pub decision_on : List ℕ → Decision
decision_on m = server_decision 1 (read_client m) (session_in 1 (read_client m) empty) fresh_connection all_off (replicate 35 0)

unfoldable pub decision_refusal : List ℕ → Refusal
decision_refusal m = (decision_on m).refusal

-- an answer by its number and place
abbrev pub answer_of : Refusal → Column
answer_of r = Answer r.number r.place

-- 'for an accepted type 1 it also prints the server decision'; 'The hello column is the decision's number', and order 9's place beside
-- it. n is the log's number for the message.
unfoldable pub hello_column : ℕ → List ℕ → Column
hello_column n m = pick (eqb n 0 && eqb (kind_of m) 1) (answer_of (decision_refusal m)) Nothing

-- order 6: '`loglist` gives a secret of 48 zero bytes'
abbrev pub zero_secret : List ℕ
zero_secret = replicate 48 0

-- 'It feeds a fresh log never told of resuming' (and order 7: '`loglist` states SHA-256'), a Finished by the joined call and every other
-- message by the accepting one: the log's number for a message
unfoldable pub log_number : Standing → List ℕ → ℕ
log_number s m = pick (is_finished m) (finish_number s zero_secret m) (accept_number s m (full sha_256))

-- and its answer: the place is that where the message broke
unfoldable pub log_refusal : Standing → List ℕ → Refusal
log_refusal s m = refusal_at (log_number s m) (broken_at m)

-- 'A refused message is passed over and the next one fed.'
unfoldable pub log_after : Standing → List ℕ → Standing
log_after s m = pick (is_finished m) (after_finish s zero_secret m) (after_accept s m (full sha_256))

-- the line of message i
unfoldable pub line_for : ℕ → Standing → List ℕ → List ℕ
line_for i s m = printed i (kind_column m) (answer_of (log_refusal s m)) (hello_column (log_number s m) m)

-- the lines of the messages from number i on
unfoldable pub lines : ℕ → Standing → List (List ℕ) → List ℕ
lines i s [] = []
lines i s (m ∷ ms) = line_for i s m ++ lines (i + 1) (log_after s m) ms

-- 'Bad contents print the header, then `contents refused`.'
unfoldable pub listing : List ℕ → List ℕ
listing case = header ++ pick (good_case case) (lines 1 (whole fresh) (bodies_of case)) refused
