-- Demand 3's words on a list of calls that have been answered: the latest store under a name, and the stores since.
-- Nothing here knows the book; it goes by the calls and the numbers answered.
-- Assumes nothing.
use Rattle.std.specs.Prelude.{List, [], ◌∷◌, map, ℕ, ◌+◌}
use Rattle.std.proofs.Math.Option.{Option, none, some}
use Rattle.seqs.specs.Pick.{pick}
use Rattle.sessions.specs.Book.{Session, is_of, is_name, is_named, Call, store, look_up, withdraw, held, clear, Answer, number_of, granted}

-- a call and what it was answered
pub record Event : Type 0 where
  pub call : Call
  pub answer : Answer

-- a list of them, the first call first
abbrev pub History : Type 0
History = List Event

abbrev pub calls_of : History → List Call
calls_of h = map (λ (e : Event). e.call) h

abbrev pub answers_of : History → List Answer
answers_of h = map (λ (e : Event). e.answer) h

-- 'the session of that axle's latest store answered 0 under that identifier .. with no withdrawal of it and no clearing since':
-- what one more call, answered n, makes of it, where it was l
unfoldable pub noted : ℕ → List ℕ → Call → ℕ → Option Session → Option Session
noted a i (store s) n l = granted n (pick (is_named a i s) (some s) l) l
noted a i (look_up a' i' out) n l = l
noted a i (withdraw a' i') n l = granted n (pick (is_name a i a' i') none l) l
noted a i (held a') n l = l
noted a i clear n l = none

-- 'the axle has since had .. further stores answered 0': what one more call, answered n, makes of their number, where it was k
unfoldable pub further : ℕ → List ℕ → Call → ℕ → ℕ → ℕ
further a i (store s) n k = granted n (pick (is_named a i s) 0 (pick (is_of a s) (k + 1) k)) k
further a i (look_up a' i' out) n k = k
further a i (withdraw a' i') n k = k
further a i (held a') n k = k
further a i clear n k = k

unfoldable pub latest_from : ℕ → List ℕ → Option Session → History → Option Session
latest_from a i l [] = l
latest_from a i l (e ∷ h) = latest_from a i (noted a i e.call (number_of e.answer) l) h

unfoldable pub since_from : ℕ → List ℕ → ℕ → History → ℕ
since_from a i k [] = k
since_from a i k (e ∷ h) = since_from a i (further a i e.call (number_of e.answer) k) h

-- from the first call on
abbrev pub latest : ℕ → List ℕ → History → Option Session
latest a i h = latest_from a i none h

abbrev pub since : ℕ → List ℕ → History → ℕ
since a i h = since_from a i 0 h
