-- Document 01, 'Table of 32': the plain book, 'fed the calls and their other arguments alone, not the table'.
-- A definition for each sentence, with the sentence above it. All of it computes.
-- Assumes nothing.
use Rattle.std.specs.Prelude.{Bool, true, false, not, ◌&&◌, ◌||◌, List, [], ◌∷◌, ◌++◌, ℕ, ◌+◌, eqb, leb, ltb, length}
use Rattle.std.proofs.Math.Option.{Option, none, some}
use Rattle.seqs.specs.Pick.{pick}
use Rattle.refusal.specs.First.{first_of}
use Rattle.octets.specs.Put.{put_list}
use Rattle.octets.specs.Same.{same}

-- 'A session is axle, identifier, EMS or not, 48-byte secret.' Order 2: 'A session now also carries its 2-byte suite.' In RFC 5246's
-- words: the session identifier, the cipher spec, by the number of its suite, and the master secret; EMS says that the secret was made
-- by RFC 7627. The axle is the number of the peer.
pub record Session : Type 0 where
  pub axle : ℕ
  pub identifier : List ℕ
  pub ems : Bool
  pub suite : ℕ
  pub secret : List ℕ

-- 'It is one row of sessions, each as its store gave it, in order of storing, the oldest first.'
abbrev pub Book : Type 0
Book = List Session

-- 'It begins empty.'
abbrev pub empty : Book
empty = []

-- ---- the book, by a test of sessions

-- how many of the book meet the test
unfoldable pub many : (Session → Bool) → Book → ℕ
many p [] = 0
many p (s ∷ b) = pick (p s) 1 0 + many p b

-- the oldest of the book that meets the test, or none
unfoldable pub oldest : (Session → Bool) → Book → Option Session
oldest p [] = none
oldest p (s ∷ b) = pick (p s) (some s) (oldest p b)

-- the book with that one struck out
unfoldable pub strike : (Session → Bool) → Book → Book
strike p [] = []
strike p (s ∷ b) = pick (p s) b (s ∷ strike p b)

-- 'whether one was there'
abbrev pub there : Option Session → Bool
there none = false
there (some s) = true

-- ---- whose a session is, and which

unfoldable pub is_of : ℕ → Session → Bool
is_of a s = eqb s.axle a

-- 'Equal identifiers on two axles are two sessions': a session goes by its axle and its identifier, compared whole.
unfoldable pub is_name : ℕ → List ℕ → ℕ → List ℕ → Bool
is_name a i a' i' = eqb a' a && same i' i

unfoldable pub is_named : ℕ → List ℕ → Session → Bool
is_named a i s = is_name a i s.axle s.identifier

-- 'What an axle holds are its sessions in the row.'
abbrev pub holds : ℕ → Book → ℕ
holds a b = many (is_of a) b

-- 'the session of that axle and identifier', or none
abbrev pub sought : ℕ → List ℕ → Book → Option Session
sought a i b = oldest (is_named a i) b

-- ---- store

-- of two axles the one with more sessions, the first at a tie
unfoldable pub fuller : Book → ℕ → ℕ → ℕ
fuller b a c = pick (ltb (holds a b) (holds c b)) c a

-- 'the axle with most sessions (lowest number at a tie)'
unfoldable pub fullest : Book → ℕ
fullest b = fuller b (fuller b (fuller b (fuller b (fuller b 1 2) 3) 4) 5) 6

-- 'if the row has that axle's identifier, that session is struck out. Else, if the axle holds 8, its own oldest is. Else, if
-- the row has under 32, none is. Else, if the axle holds 4 to 7, its own oldest is; if it holds fewer, the oldest of the axle
-- with most sessions'
unfoldable pub struck : ℕ → List ℕ → Book → Book
struck a i b =
    pick (there (sought a i b)) (strike (is_named a i) b)
    (pick (eqb (holds a b) 8) (strike (is_of a) b)
    (pick (ltb (length b) 32) b
    (pick (leb 4 (holds a b)) (strike (is_of a) b)
    (strike (is_of (fullest b)) b))))

-- 'The new session is then written last'
unfoldable pub written : Session → Book → Book
written s b = struck s.axle s.identifier b ++ (s ∷ [])

-- ---- refusals

-- 11: 'axle not 1 to 6, or identifier not 1 to 32 bytes'
unfoldable pub bad_axle : ℕ → Bool
bad_axle a = not (leb 1 a && leb a 6)

unfoldable pub bad_name : ℕ → List ℕ → Bool
bad_name a i = bad_axle a || not (leb 1 (length i) && leb (length i) 32)

-- 10: 'a stored secret not of 48 bytes'
unfoldable pub bad_secret : List ℕ → Bool
bad_secret s = not (eqb (length s) 48)

-- 10, last: 'where look-up is lent an output buffer too short for the secret of the session found. Where none is found ..
-- no buffer is too short.'
unfoldable pub too_short : List ℕ → Option Session → Bool
too_short out none = false
too_short out (some s) = ltb (length out) (length s.secret)

unfoldable pub store_number : Session → ℕ
store_number s = first_of ((11, bad_name s.axle s.identifier) ∷ (10, bad_secret s.secret) ∷ [])

unfoldable pub look_up_number : ℕ → List ℕ → List ℕ → Book → ℕ
look_up_number a i out b = first_of ((11, bad_name a i) ∷ (10, too_short out (sought a i b)) ∷ [])

unfoldable pub withdraw_number : ℕ → List ℕ → ℕ
withdraw_number a i = first_of ((11, bad_name a i) ∷ [])

unfoldable pub held_number : ℕ → ℕ
held_number a = first_of ((11, bad_axle a) ∷ [])

-- by a call's number: what goes with 0, or what stands in its place where the call is refused
abbrev pub granted : {A : Type 0} → ℕ → A → A → A
granted n x refused = pick (eqb n 0) x refused

-- ---- the calls, with whatever arguments

pub data Call : Type 0 where
  -- the session as it was given
  store : Session → Call
  -- axle, identifier, and what the lent output holds
  look_up : ℕ → List ℕ → List ℕ → Call
  withdraw : ℕ → List ℕ → Call
  held : ℕ → Call
  clear : Call

-- Each begins with the number answered. A refusal answers its number and nothing else: none, no or 0 stands beside it.
pub data Answer : Type 0 where
  stored : ℕ → Answer
  -- the session found or none, and what the lent output holds afterwards
  looked : ℕ → Option Session → List ℕ → Answer
  -- whether one was there
  withdrew : ℕ → Bool → Answer
  -- how many the axle holds
  counted : ℕ → ℕ → Answer
  cleared : ℕ → Answer

abbrev pub number_of : Answer → ℕ
number_of (stored n) = n
number_of (looked n f o) = n
number_of (withdrew n w) = n
number_of (counted n k) = n
number_of (cleared n) = n

-- the lent output with the secret of the session found at its front; 'Where none is found nothing is written'
abbrev pub handed : List ℕ → Option Session → List ℕ
handed out none = out
handed out (some s) = put_list out s.secret

-- what a call is answered where the book is b
unfoldable pub answer : Book → Call → Answer
answer b (store s) = stored (store_number s)
answer b (look_up a i out) =
    let n = look_up_number a i out b in
    looked n (granted n (sought a i b) none) (granted n (handed out (sought a i b)) out)
answer b (withdraw a i) = let n = withdraw_number a i in withdrew n (granted n (there (sought a i b)) false)
answer b (held a) = let n = held_number a in counted n (granted n (holds a b) 0)
answer b clear = cleared 0

-- the book after it: 'Refused, the row staying as it was'
unfoldable pub after : Book → Call → Book
after b (store s) = granted (store_number s) (written s b) b
after b (look_up a i out) = b
after b (withdraw a i) = granted (withdraw_number a i) (strike (is_named a i) b) b
after b (held a) = b
after b clear = empty

-- ---- a list of calls

unfoldable pub answers_from : Book → List Call → List Answer
answers_from b [] = []
answers_from b (c ∷ cs) = answer b c ∷ answers_from (after b c) cs

unfoldable pub book_from : Book → List Call → Book
book_from b [] = b
book_from b (c ∷ cs) = book_from (after b c) cs
