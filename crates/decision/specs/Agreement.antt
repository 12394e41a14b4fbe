-- The tender's second condition, on the reply: 'The reply that our server side writes is accepted by our client side, with the
-- same outcome, when it answers our own hello, both hold the same connection record and the same session, and the
-- ServerHello reads without fault and repeats a non-empty offered identifier exactly when it resumes.' It is stated of what the
-- two calls ensure and of the bytes that the server wrote. It is proved in proofs/Joined.antt, and specs/Exchanges.antt has an exchange
-- of each kind that meets what it supposes.
-- Assumes nothing.
use Rattle.std.specs.Prelude.{◌≡◌, true, false, List, ◌⊎◌, ℕ, length, take}
use Rattle.std.proofs.Math.Option.{Option, none, some}
use Rattle.seqs.specs.Flag.{yes}
use Rattle.refusal.specs.Table.{refusal_of}
use Rattle.octets.specs.Same.{same}
use Rattle.sessions.specs.Book.{Book, sought}
use Rattle.sessions.specs.Keeps.{Keeps}
use Rattle.sessions.specs.declared.table.Table.{Table}
use Rattle.hello.specs.Layout.{big}
use Rattle.hello.specs.Fields.{Hello, fields, signal_in, read_client, read_server}
use Rattle.hello.specs.Written.{behind_method}
use Rattle.decision.specs.Reply.{offer_of, offer_turned}
use Rattle.decision.specs.Server.{Original, original_of, ServerDecides}
use Rattle.decision.specs.Client.{Lent, client_decision}
use Rattle.decision.specs.declared.connection.Connection.{Connection}
use Rattle.decision.specs.declared.connection.Switches.{Switches}
use Rattle.decision.specs.declared.connection.Decision.{Decision}

-- 'our own hello': it offers the identifier i, RI and EMS in either order, nothing else, no signal
pub record OurHello (c : Connection) (i : List ℕ) (h : Hello) : Type 0 where
  pub identifier : h.identifier ≡ i
  pub signal : signal_in h.suites ≡ false
  pub extensions : (h.extensions ≡ offer_of c) ⊎ (h.extensions ≡ offer_turned c)

-- 'both hold .. the same session': the client's bears the offered identifier, and the server's, if it has not lost it, has the
-- same EMS and the same suite. Where nothing is offered no session is asked on either side.
pub record SameSession (axle : ℕ) (b : Book) (i : List ℕ) (l : Option Lent) : Type 0 where
  pub original : Original
  pub client : (length i ≡ 0 → ⊥) → l ≡ some (record { identifier = i; original = original })
  pub server : (length i ≡ 0 → ⊥) → (original_of (sought axle i b) ≡ none) ⊎ (original_of (sought axle i b) ≡ some original)

-- What the rule supposes of two calls. Our server was given the ClientHello h of an axle, the table t, which keeps the book b, the
-- connection record c, switches s, and an output that held out; it answered d, and the output then held out'. Our client was given the
-- ServerHello m, the identifier i that it had offered, the session l, the same record, and switches s' of its own; it answered d'.
pub record Exchange (t : Table) (b : Book) (axle : ℕ) (c : Connection) (s s' : Switches) (h out out' m i : List ℕ) (l : Option Lent) (d d' : Decision) : Type 0 where
  -- what the two calls ensure
  pub keeps : Keeps t b
  pub served : ServerDecides t axle (read_client h) c s out d out'
  pub judged : d' ≡ client_decision (read_server m) i l c s'
  -- 'it answers our own hello': the server accepts it
  pub asks : Hello
  pub reads : read_client h ≡ fields asks
  pub ours : OurHello c i asks
  pub accepts : d.refusal.number ≡ 0
  pub shares : SameSession axle b i l
  -- 'the ServerHello reads without fault'; behind its compression method stands what the server wrote, and nothing else
  pub answer : Hello
  pub answered : read_server m ≡ fields answer
  pub carries : behind_method m answer ≡ take d.reply_length out'
  -- 'and repeats a non-empty offered identifier exactly when it resumes'
  pub repeats : (length i ≡ 0 → ⊥) → same answer.identifier i ≡ yes d.resumes
  -- Order 2: 'demand 2's reply rule supposes such a ServerHello', one that names the session's suite where it resumes
  pub suite : yes d.resumes ≡ true → big answer.suites ≡ shares.original.suite

-- what it promises of the two decisions
pub record Agree (server client : Decision) : Type 0 where
  pub accepted : client.refusal ≡ refusal_of 0
  pub resumes : client.resumes ≡ server.resumes
  pub ems : client.ems ≡ server.ems
  pub flag : client.indication ≡ server.indication
  pub bar : client.bar ≡ server.bar
  pub bars_export : client.bars_export ≡ server.bars_export
  pub bars_verify_data : client.bars_verify_data ≡ server.bars_verify_data

-- the rule, for whatever switches either side has
abbrev pub ReplyRule : Type 0
ReplyRule =
    (t : Table) (b : Book) (axle : ℕ) (c : Connection) (s s' : Switches) (h out out' m i : List ℕ) (l : Option Lent) (d d' : Decision)
    → Exchange t b axle c s s' h out out' m i l d d' → Agree d d'
