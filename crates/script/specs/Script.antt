-- A script of calls on the session table, in bytes, and the book's answers to it, in bytes. Every list of bytes is a script.
--
-- A call is 112 bytes; what is left over behind the last whole one is not read. By place:
--     0            the call: 0 store, 1 look-up, 2 withdrawal, 3 number held, any other clearing
--     1            the axle
--     2            how long the identifier is: 40 where this says more
--     3            EMS: 0 no, any other yes
--     4            how long the secret of a store is, or the output lent to a look-up: 64 where this says more
--     5 and 6      the suite of a store, the high byte first
--     7            not read
--     8 to 47      the identifier, at the front
--     48 to 111    the secret, or what the lent output holds, at the front
--
-- An answer is 70 bytes, the answers in the order of the calls:
--     0            the number answered
--     1            1 where a session was found or withdrawn, else 0
--     2            1 where the session found has EMS, else 0
--     3            the number held
--     4 and 5      the suite of the session found, the high byte first
--     6 to 69      what the lent output holds afterwards, and zeros behind it
-- What a call does not answer is 0.
-- Assumes nothing.
use Rattle.std.specs.Prelude.{List, [], ◌∷◌, ◌++◌, ℕ, ◌+◌, ◌-◌, ◌*◌, ◌/◌, ◌%◌, min, eqb, length, take, drop, get_or, replicate}
use Rattle.seqs.specs.Flag.{yes, bit}
use Rattle.seqs.specs.Pick.{pick}
use Rattle.seqs.specs.Tab.{tab}
use Rattle.sessions.specs.Book.{Call, store, look_up, withdraw, held, clear, Answer, stored, looked, withdrew, counted, cleared, there, empty, answers_from}
use Rattle.sessions.specs.Promises.{with_ems, suite_of}

-- ---- calls

abbrev pub identifier_in : List ℕ → List ℕ
identifier_in e = take (min (get_or e 2 0) 40) (drop 8 e)

abbrev pub lent_in : List ℕ → List ℕ
lent_in e = take (min (get_or e 4 0) 64) (drop 48 e)

abbrev pub suite_in : List ℕ → ℕ
suite_in e = 256 * get_or e 5 0 + get_or e 6 0

-- the call in 112 bytes
unfoldable pub call_of : List ℕ → Call
call_of e =
    pick (eqb (get_or e 0 0) 0) (store (record { axle = get_or e 1 0; identifier = identifier_in e; ems = yes (get_or e 3 0); suite = suite_in e; secret = lent_in e }))
    (pick (eqb (get_or e 0 0) 1) (look_up (get_or e 1 0) (identifier_in e) (lent_in e))
    (pick (eqb (get_or e 0 0) 2) (withdraw (get_or e 1 0) (identifier_in e))
    (pick (eqb (get_or e 0 0) 3) (held (get_or e 1 0))
    clear)))

-- call k of a script
abbrev pub call_at : List ℕ → ℕ → Call
call_at s k = call_of (take 112 (drop (112 * k) s))

-- all of them
unfoldable pub calls_in : List ℕ → List Call
calls_in s = tab (length s / 112) (call_at s)

-- ---- answers

-- the first six bytes, and what stands behind them
abbrev pub reply : ℕ → ℕ → ℕ → ℕ → ℕ → List ℕ → List ℕ
reply n f e k s out = n ∷ f ∷ e ∷ k ∷ (s / 256) ∷ (s % 256) ∷ out ++ replicate (64 - length out) 0

-- an answer in 70 bytes
unfoldable pub reply_of : Answer → List ℕ
reply_of (stored n) = reply n 0 0 0 0 []
reply_of (looked n f out) = reply n (bit (there f)) (bit (with_ems f)) 0 (suite_of f) out
reply_of (withdrew n w) = reply n (bit w) 0 0 0 []
reply_of (counted n k) = reply n 0 0 k 0 []
reply_of (cleared n) = reply n 0 0 0 0 []

unfoldable pub replies_of : List Answer → List ℕ
replies_of [] = []
replies_of (a ∷ more) = reply_of a ++ replies_of more

-- the book's answers to a script, from an empty book
abbrev pub replies : List ℕ → List ℕ
replies s = replies_of (answers_from empty (calls_in s))
