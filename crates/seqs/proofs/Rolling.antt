-- The ring rolls forward through the schedule, a word at a time, and each round finds its word in it.
-- Assumes nothing.
use mathlib.Core.Path.{◌≡◌, refl, sym, ◌∙◌, ap, ap₂, subst}
use mathlib.Core.List.{List, [], ◌∷◌, ◌++◌}
use Prim.Native.Nat.{ℕ, zero, suc, ◌+◌, ◌-◌, ◌*◌, ◌/◌, ◌%◌, ◌≤◌, ◌<◌}
use native.Mathlib.Nat.{add-suc, add-zero}
use native.Mathlib.Numerals.{add-one}
use native.Mathlib.Omega.{arith}
use lib.ListN.{length, take, drop, get_or, length-append, length-drop, get_or-append}
use lib.Seq.{get_or-take, get_or-drop, get_or_at, take-suc, take_all, drop-cons, ext_get_or, length-take-le}
use Rattle.seqs.specs.Tab.{tab}
use Rattle.seqs.specs.Operations.{add}
use Rattle.seqs.specs.Sha2.{Value, Sha2, next, schedule, round_of, rounds, plus}
use Rattle.seqs.specs.Ring.{word_of, Ring, Finds, Rings, EachRound, RingsExist}
use Rattle.seqs.proofs.Tab.{length-tab}

-- a list, element by element
tabbed : (l : List ℕ) (n : ℕ) → n ≤ length l → take n l ≡ tab n (λ i. get_or l i 0)
unfolding tab
tabbed l zero h = refl
tabbed l (suc n) h = take-suc l n 0 h ∙ ap (λ (p : List ℕ). p ++ (get_or l n 0 ∷ [])) (tabbed l n (omega arith))

module _ (F : Sha2) where
  length-schedule : (n : ℕ) (b : List ℕ) → length (schedule F n b) ≡ n + 16
  unfolding schedule
  length-schedule zero b = length-tab 16 _
  length-schedule (suc n) b = rw (length-append, length-schedule n b) (omega arith)

  -- words that are made stay
  stays : (n m i : ℕ) (b : List ℕ) → i < n + 16 → get_or (schedule F (n + m) b) i 0 ≡ get_or (schedule F n b) i 0
  unfolding schedule
  stays n zero i b h = ap (λ (x : ℕ). get_or (schedule F x b) i 0) (add-zero n)
  stays n (suc m) i b h =
      ap (λ (x : ℕ). get_or (schedule F x b) i 0) (add-suc n m)
      ∙ get_or-append (schedule F (n + m) b) _ 0 i (omega (arith, length-schedule (n + m) b))
      ∙ stays n m i b h

  pub same_next : {a b c d a' b' c' d' : ℕ} → a ≡ a' → b ≡ b' → c ≡ c' → d ≡ d' → next F a b c d ≡ next F a' b' c' d'
  same_next p q r s = cc

  -- 'W(t)' for t from 16 on
  made : (b : List ℕ) (n : ℕ) → n < F.more → word_of F b (n + 16) ≡ next F (word_of F b n) (word_of F b (n + 1)) (word_of F b (n + 9)) (word_of F b (n + 14))
  unfolding schedule
  made b n h =
      let e : F.more ≡ n + (F.more - n) = omega arith in
      let f : F.more ≡ suc n + (F.more - suc n) = omega arith in
      let s : (i : ℕ) → i < n + 16 → word_of F b i ≡ get_or (schedule F n b) i 0 =
      λ i k. ap (λ (x : ℕ). get_or (schedule F x b) i 0) e ∙ stays n (F.more - n) i b k in
      ap (λ (x : ℕ). get_or (schedule F x b) (n + 16) 0) f
      ∙ stays (suc n) (F.more - suc n) (n + 16) b (omega arith)
      ∙ get_or_at (schedule F n b) _ [] 0 (n + 16) (length-schedule n b)
      ∙ sym (same_next (s n (omega arith)) (s (n + 1) (omega arith)) (s (n + 9) (omega arith)) (s (n + 14) (omega arith)))

  module _ {w b : List ℕ} {t : ℕ} (r : Ring F w b t) where
    -- place i of the ring is W(t + i)
    found : (i : ℕ) → i < 16 → get_or w i 0 ≡ word_of F b (t + i)
    found i h = rw r.words (get_or-take 16 (drop t (schedule F F.more b)) i 0 h ∙ get_or-drop t (schedule F F.more b) i 0)

    -- the ring, word by word
    pub spread : t ≤ F.more → Ring F (tab 16 (λ i. get_or w i 0)) b (t + 0)
    spread h =
        let z : t ≡ t + 0 = omega arith in
        let s : 16 ≤ length (drop t (schedule F F.more b)) = simp length-drop (omega (arith, length-schedule F.more b)) in
        let l : length w ≡ 16 = ap length r.words ∙ length-take-le 16 (drop t (schedule F F.more b)) s in
        record { words = sym (tabbed w 16 (omega arith)) ∙ take_all 16 w (omega arith) ∙ r.words ∙ ap (λ (i : ℕ). take 16 (drop i (schedule F F.more b))) z }

    -- one word forward: the oldest goes, and the one that follows comes
    forward : {x : ℕ} → t < F.more → x ≡ next F (get_or w 0 0) (get_or w 1 0) (get_or w 9 0) (get_or w 14 0) → Ring F (drop 1 w ++ (x ∷ [])) b (suc t)
    forward {x} h e =
        let s = schedule F F.more b in
        let l : length s ≡ F.more + 16 = length-schedule F.more b in
        let m : t < length s = omega arith in
        let k : 15 < length (drop (suc t) s) = simp length-drop (omega arith) in
        let z : t + 0 ≡ t = omega arith in
        let i : suc t + 15 ≡ t + 16 = omega arith in
        let n : x ≡ get_or (drop (suc t) s) 15 0 =
        e
        ∙ same_next (found 0 (omega arith) ∙ ap (word_of F b) z) (found 1 (omega arith)) (found 9 (omega arith)) (found 14 (omega arith))
        ∙ sym (made b t h)
        ∙ sym (get_or-drop (suc t) s 15 0 ∙ ap (word_of F b) i) in
        record { words = ap₂ (λ (p : List ℕ) (q : ℕ). drop 1 p ++ (q ∷ [])) (r.words ∙ ap (take 16) (drop-cons s t 0 m)) n ∙ sym (take-suc (drop (suc t) s) 15 0 k) }

  -- the same, i words ahead of where the ring stood
  pub onward : {w b : List ℕ} {x : ℕ} (t i : ℕ) → t + 16 ≤ F.more → i < 16 → Ring F w b (t + i)
      → x ≡ next F (get_or w 0 0) (get_or w 1 0) (get_or w 9 0) (get_or w 14 0)
      → Ring F (drop 1 w ++ (x ∷ [])) b (t + (i + 1))
  onward {w} {b} {x} t i h k r e =
      let n : suc (t + i) ≡ t + (i + 1) = omega arith in
      subst (Ring F (drop 1 w ++ (x ∷ [])) b) n (forward r (omega arith) e)

  -- the block's own words are the ring before round 0
  pub begins : (b : List ℕ) → Ring F (schedule F 0 b) b 0
  begins b =
      let l : length (schedule F 0 b) ≡ 16 = length-schedule 0 b in
      let z : F.more ≡ 0 + F.more = omega arith in
      let m : 16 ≤ length (schedule F F.more b) = omega (arith, length-schedule F.more b) in
      record {
        words =
            ext_get_or 0 (schedule F 0 b) (take 16 (schedule F F.more b))
            (l ∙ sym (length-take-le 16 (schedule F F.more b) m))
            (λ i h. sym (get_or-take 16 (schedule F F.more b) i 0 (omega arith) ∙ ap (λ (x : ℕ). get_or (schedule F x b) i 0) z ∙ stays 0 F.more i b (omega arith)));
      }

  -- ---- every round

  pub finds : Finds F
  finds w b t h r =
      let n : 16 * (t / 16) + t % 16 ≡ t = omega arith in
      found r (t % 16) (omega arith) ∙ ap (word_of F b) n

  -- the rings of all turns stand where their turns begin
  stand : {b : List ℕ} {ring : ℕ → List ℕ} → Rings F b ring → (turn : ℕ) → 16 * turn ≤ F.more → Ring F (ring turn) b (16 * turn)
  stand {b} {ring} r zero h = subst (λ (w : List ℕ). Ring F w b 0) (sym r.first) (begins b)
  stand {b} {ring} r (suc turn) h =
      let n : 16 * turn + 16 ≡ 16 * suc turn = omega arith in
      subst (Ring F (ring (suc turn)) b) n
      (subst (λ (i : ℕ). Ring F (ring i) b (16 * turn + 16)) (add-one turn)
      (r.others turn (omega arith) b (16 * turn) (omega arith) (stand r turn (omega arith))))

  pub each_round : EachRound F
  each_round whole b ring r t h = finds (ring (t / 16)) b t h (stand r (t / 16) (omega arith))

  -- a ring rolled on by n words
  rolled_by : ℕ → List ℕ → List ℕ
  rolled_by zero w = w
  rolled_by (suc n) w =
      drop 1 (rolled_by n w)
      ++ (next F (get_or (rolled_by n w) 0 0) (get_or (rolled_by n w) 1 0) (get_or (rolled_by n w) 9 0) (get_or (rolled_by n w) 14 0) ∷ [])

  ahead : {w b : List ℕ} {t : ℕ} → Ring F w b t → (n : ℕ) → t + n ≤ F.more → Ring F (rolled_by n w) b (t + n)
  unfolding rolled_by
  ahead {w} {b} {t} r zero h =
      let n : t ≡ t + 0 = omega arith in
      subst (Ring F w b) n r
  ahead {w} {b} {t} r (suc n) h =
      let k : suc (t + n) ≡ t + suc n = omega arith in
      subst (Ring F (rolled_by (suc n) w) b) k (forward (ahead r n (omega arith)) (omega arith) refl)

  turns : List ℕ → ℕ → List ℕ
  turns b zero = schedule F 0 b
  turns b (suc turn) = rolled_by 16 (turns b turn)

  pub rings_exist : RingsExist F
  unfolding turns
  rings_exist b = (turns b, record { first = refl; others = λ turn h block t g r. subst (λ (i : ℕ). Ring F (turns b i) block (t + 16)) (sym (add-one turn)) (ahead r 16 (omega arith)) })

  -- ---- the rounds

  same_round : {r r' : Value} {k k' w w' : ℕ} → r ≡ r' → k ≡ k' → w ≡ w' → round_of F r k w ≡ round_of F r' k' w'
  same_round p q s = cc

  next_round : (s : Value) (ws : List ℕ) (n : ℕ) → round_of F (rounds F n s ws) (get_or F.ks n 0) (get_or ws n 0) ≡ rounds F (suc n) s ws
  unfolding rounds
  next_round s ws n = refl

  -- round i of a turn finds its word of the schedule at place i of the ring that stands where the turn begins
  pub round_more : (s : Value) (turn i : ℕ) {w b : List ℕ} {v v' : Value} {k x : ℕ} → 16 * turn ≤ F.more → i < 16 → Ring F w b (16 * turn)
      → k ≡ get_or F.ks (16 * turn + i) 0 → x ≡ get_or w i 0
      → v ≡ rounds F (16 * turn + i) s (schedule F F.more b) → v' ≡ round_of F v k x
      → v' ≡ rounds F (16 * turn + (i + 1)) s (schedule F F.more b)
  round_more s turn i {w} {b} g h r e f p q =
      let m : (16 * turn + i) / 16 ≡ turn = omega arith in
      let o : (16 * turn + i) % 16 ≡ i = omega arith in
      let u : suc (16 * turn + i) ≡ 16 * turn + (i + 1) = omega arith in
      let l : get_or w i 0 ≡ word_of F b (16 * turn + i) =
      ap (λ (x : ℕ). get_or w x 0) (sym o) ∙ finds w b (16 * turn + i) (omega arith) (subst (λ (x : ℕ). Ring F w b (16 * x)) (sym m) r) in
      q
      ∙ same_round p e (f ∙ l)
      ∙ next_round s (schedule F F.more b) (16 * turn + i)
      ∙ ap (λ (x : ℕ). rounds F x s (schedule F F.more b)) u

  pub rounds_none : (s : Value) (ws : List ℕ) → s ≡ rounds F 0 s ws
  unfolding rounds
  rounds_none s ws = refl

  -- and the sums behind the last
  pub summed : (s v : Value) {a b c d e f g h : ℕ} → a ≡ add F.width s.a v.a → b ≡ add F.width s.b v.b → c ≡ add F.width s.c v.c → d ≡ add F.width s.d v.d
      → e ≡ add F.width s.e v.e → f ≡ add F.width s.f v.f → g ≡ add F.width s.g v.g → h ≡ add F.width s.h v.h
      → record { a = a; b = b; c = c; d = d; e = e; f = f; g = g; h = h } ≡ plus F s v
  unfolding plus
  summed s v p q r t u w x y = cc
