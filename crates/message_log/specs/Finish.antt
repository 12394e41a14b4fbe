-- A Finished: what is expected of it, and the one call that checks and takes it (document 01, 'The message log'; order 6; RFC 5246,
-- section 7.4.9).
-- Assumes nothing.
use Rattle.std.specs.Prelude.{◌≡◌, not, ◌&&◌, List, [], ◌∷◌, ℕ, eqb, length, replicate}
use Rattle.seqs.specs.Pick.{pick}
use Rattle.refusal.specs.First.{first_of}
use Rattle.refusal.specs.Table.{refusal_of}
use Rattle.octets.specs.Same.{same}
use Rattle.message.specs.Frame.{kind_of, body_of, overlong, misstated}
use Rattle.transcript.specs.Carries.{digest_of}
use Rattle.prf.specs.Secrets.{verify_data}
use Rattle.message_log.specs.Order.{finished_due}
use Rattle.message_log.specs.Suite.{function_of}
use Rattle.message_log.specs.History.{History, place_of, hashed, suite_of, from_server}
use Rattle.message_log.specs.History.History.{fresh, accepted}
use Rattle.message_log.specs.History.Beside.{told, under}
use Rattle.message_log.specs.Standing.{Standing, history_of, between}
use Rattle.message_log.specs.Standing.Standing.{whole}
use Rattle.message_log.specs.Calls.{misshapen, is_finished}
use Rattle.message_log.specs.declared.answers.Expected.{Expected}

-- 'expected is PRF(secret, "client finished" or "server finished", hash of the log so far), first 12 bytes', both by the suite's hash
unfoldable pub expected_value : History → List ℕ → List ℕ
expected_value h secret = verify_data (function_of (suite_of h)) secret (from_server h) (digest_of (suite_of h) (hashed h))

-- 'a third call gives them, with the same 10 and 7'
unfoldable pub expected_number : Standing → List ℕ → ℕ
expected_number s secret =
    first_of
    ((10, not (eqb (length secret) 48))
    ∷ (7, between s)
    ∷ (7, not (finished_due (place_of (history_of s))))
    ∷ [])

unfoldable pub expected_of : Standing → List ℕ → Expected
expected_of s secret =
    record {
      refusal = refusal_of (expected_number s secret);
      value = pick (eqb (expected_number s secret) 0) (expected_value (history_of s) secret) (replicate 12 0);
    }

-- 'one call of the two: it checks the value and takes the message, or refuses': 'a 48-byte secret (else 10) and a message of type 20 that
-- is due (else 7)'; 8: Finished value differs
unfoldable pub finish_number : Standing → List ℕ → List ℕ → ℕ
finish_number s secret m =
    first_of
    ((10, not (eqb (length secret) 48))
    ∷ (10, overlong m)
    ∷ (1, misstated m)
    ∷ (1, misshapen m)
    ∷ (7, between s)
    ∷ (7, not (is_finished m && finished_due (place_of (history_of s))))
    ∷ (8, not (same (body_of m) (expected_value (history_of s) secret)))
    ∷ [])

-- 'and leaves the log'
unfoldable pub after_finish : Standing → List ℕ → List ℕ → Standing
after_finish s secret m = pick (eqb (finish_number s secret m) 0) (whole (accepted (history_of s) m (under secret))) s

-- a Finished that was checked: it carries the expected value of its moment, the history before it, under the secret of that very call
pub record Checked (h : History) (m secret : List ℕ) : Type 0 where
  pub kind : kind_of m ≡ 20
  pub sized : length secret ≡ 48
  pub value : body_of m ≡ expected_value h secret

-- was each Finished checked? From fresh by the calls there is no other history.
unfoldable pub Compared : History → Type 0
Compared fresh = Unit {0}
Compared (accepted h m (told tell)) = (kind_of m ≡ 20 → ⊥) × Compared h
Compared (accepted h m (under secret)) = Checked h m secret × Compared h
