-- One block into the hash value: what FIPS 180-4, sections 6.4.2 and 6.5, has of its own, and with it the message schedule, the 80 rounds and the
-- sums that it shares with the other hashes of the document (`Sha2` and `Ring` of seqs).
-- Assumes nothing.
use Rattle.std.specs.Prelude.{◌≡◌, ℕ, ◌/◌, ◌%◌, ◌<◌, List, [], ◌∷◌, slice_index}
use Rattle.seqs.specs.Words.{big, bytes_of}
use Rattle.seqs.specs.Sha2 as sha2
use Rattle.seqs.specs.Ring as ring
use Rattle.fips180.specs.Kinds.{words64}

-- words of 64 bits, and 64 of them behind the block's own sixteen
abbrev pub parameters : sha2.Sha2
parameters = words64

abbrev pub next : ℕ → ℕ → ℕ → ℕ → ℕ
next = sha2.next parameters

abbrev pub schedule : ℕ → List ℕ → List ℕ
schedule = sha2.schedule parameters

abbrev pub round_of : sha2.Value → ℕ → ℕ → sha2.Value
round_of = sha2.round_of parameters

abbrev pub rounds : ℕ → sha2.Value → List ℕ → sha2.Value
rounds = sha2.rounds parameters

abbrev pub step : sha2.Value → List ℕ → sha2.Value
step = sha2.step parameters

-- the sixteen words of the schedule that stand at a round, and those that follow them
abbrev pub Ring : List ℕ → List ℕ → ℕ → Type 0
Ring = ring.Ring parameters

abbrev pub Rolls : List ℕ → List ℕ → Type 0
Rolls = ring.Rolls parameters

-- so each of the 80 rounds of a block finds its word, by the contracts of `load` and `rolled` alone. The proof is proofs/Rounds.antt.
abbrev pub EachRound : Type 0
EachRound =
    (block : List ℕ) (rings : ℕ → List ℕ) → ring.Rings parameters block rings
    → (t : ℕ) → t < 80 → slice_index (rings (t / 16)) (t % 16) ≡ slice_index (schedule 64 block) t

-- 'truncating the final hash value, H(N), to its left-most 384 bits': the first six of its eight words
unfoldable pub output : sha2.Value → List ℕ
output s = bytes_of big 8 (s.a ∷ s.b ∷ s.c ∷ s.d ∷ s.e ∷ s.f ∷ [])
