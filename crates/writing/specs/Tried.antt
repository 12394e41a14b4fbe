-- What a writer's attempt answers: how many bytes it wrote, or why none.
-- Assumes nothing.
use Rattle.std.specs.Prelude.{◌≡◌, Bool, false, List, ◌++◌, ℕ, eqb, length, drop, Result, Ok, Err, MatchResult}
use Rattle.seqs.specs.Pick.{pick}
use Rattle.refusal.specs.Table.{refusal_of}
use Rattle.refusal.specs.Reason.{refusal_for, refusal_in}
use Rattle.refusal.specs.declared.reason.Reason.{Reason}
use Rattle.writing.specs.Lists.{fitting}
use Rattle.writing.specs.Messages.{client_bytes, server_bytes}
use Rattle.writing.specs.Promise.{client_number, server_number, client_of, server_of}
use Rattle.writing.specs.declared.judging.Written.{Written}

-- it is handed over as the refusal, and the length
abbrev pub written_of : Result ℕ Reason → Written
written_of (Ok n) = record { refusal = refusal_of 0; length = n }
written_of (Err r) = record { refusal = refusal_for r; length = 0 }

-- a message for a lent output, as `Writes` says it
pub record Tries (number : ℕ) (message out out' : List ℕ) (r : Result ℕ Reason) : Type 0 where
  pub refusal : refusal_in r ≡ refusal_of number
  pub size : MatchResult r (λ n. (number ≡ 0) × (n ≡ length message)) (λ _. eqb number 0 ≡ false)
  pub output : out' ≡ pick (eqb number 0) (message ++ drop (length message) out) out

abbrev pub TriesClient : ℕ → List ℕ → List ℕ → List ℕ → List ℕ → Bool → List ℕ → List ℕ → List ℕ → List ℕ → List ℕ → Result ℕ Reason → Type 0
TriesClient version random identifier suites methods block types lengths bytes out out' r =
    let f = client_of version random identifier suites methods block types lengths bytes in
    Tries (client_number (fitting types lengths bytes) f out) (client_bytes f) out out' r

abbrev pub TriesServer : ℕ → List ℕ → List ℕ → ℕ → ℕ → Bool → List ℕ → List ℕ → List ℕ → List ℕ → List ℕ → Result ℕ Reason → Type 0
TriesServer version random identifier suite compression block types lengths bytes out out' r =
    let f = server_of version random identifier suite compression block types lengths bytes in
    Tries (server_number (fitting types lengths bytes) f out) (server_bytes f) out out' r
