-- The sixteen words of the message schedule that roll forward through the rounds, in place of all of them. FIPS 180-4's `schedule`
-- stays the definition; here is what the sixteen stand for, and that no round misses its word. The proofs are proofs/Rolling.antt.
-- Assumes nothing.
use Rattle.std.specs.Prelude.{◌≡◌, List, ℕ, ◌+◌, ◌*◌, ◌/◌, ◌%◌, ◌≤◌, ◌<◌, take, drop, get_or}
use Rattle.seqs.specs.Sha2.{Sha2, schedule}

module _ (F : Sha2) where
  -- W(t) of the block's schedule
  abbrev pub word_of : List ℕ → ℕ → ℕ
  word_of block t = get_or (schedule F F.more block) t 0

  -- the ring w stands at round t: it is W(t) to W(t + 15)
  pub record Ring (w : List ℕ) (block : List ℕ) (t : ℕ) : Type 0 where
    pub words : w ≡ take 16 (drop t (schedule F F.more block))

  -- 'each round finds its word of FIPS 180-4's schedule there': in the ring that stands at the first round of turn t / 16, round t
  -- finds W(t) at place t % 16
  abbrev pub Finds : Type 0
  Finds = (w block : List ℕ) (t : ℕ) → t < F.more + 16 → Ring w block (16 * (t / 16)) → get_or w (t % 16) 0 ≡ word_of block t

  -- rolled forward by sixteen words: wherever w stands, r stands sixteen rounds later
  abbrev pub Rolls : List ℕ → List ℕ → Type 0
  Rolls w r = (block : List ℕ) (t : ℕ) → t + 16 ≤ F.more → Ring w block t → Ring r block (t + 16)

  -- The rings of a block's turns of sixteen rounds. The premises are what the contracts of `load` and `rolled` ensure, and
  -- nothing else: the first is the block's own words, and each of the others is the one before it, rolled.
  pub record Rings (block : List ℕ) (ring : ℕ → List ℕ) : Type 0 where
    pub first : ring 0 ≡ schedule F 0 block
    pub others : (turn : ℕ) → 16 * (turn + 1) ≤ F.more → Rolls (ring turn) (ring (turn + 1))

  -- so each of the rounds of a block finds its word, by these contracts alone, where the turns are whole
  abbrev pub EachRound : Type 0
  EachRound =
      F.more % 16 ≡ 0 → (block : List ℕ) (ring : ℕ → List ℕ) → Rings block ring
      → (t : ℕ) → t < F.more + 16 → get_or (ring (t / 16)) (t % 16) 0 ≡ word_of block t

  -- and there are such rings, for every block
  abbrev pub RingsExist : Type 0
  RingsExist = (block : List ℕ) → (ring : ℕ → List ℕ) × Rings block ring
