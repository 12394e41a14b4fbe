-- The last blocks of a message behind its first one, laid out in zeros.
-- Assumes nothing.
use Rattle.std.proofs.Common.{◌≡◌, ℕ, suc, ◌+◌, ◌-◌, ◌*◌, ◌<◌, ◌≤◌, List, [], ◌∷◌, ◌++◌, length, take, drop, replicate, sym, ap, ◌∙◌, ap₂, append-nil, append_assoc, arith, take_all, take_at, length-append, length-drop}
use Rattle.std.proofs.Math.Nat.{mul-zero, mul-one}
use lib.Seq.{take-add, take-take, paste}
use Rattle.std.proofs.lemmas.List.Edits.{length-paste, take-paste}
use lib.ListN.{length-replicate, replicate-append-replicate}
use borrow.Rule.Slice.PartMut.{put_mid}
use Rattle.seqs.specs.Blocks.{after}
use Rattle.seqs.specs.Words.{big, in_bytes}
use Rattle.seqs.specs.Sha2.{Sha2, Value, step}
use Rattle.seqs.specs.Taken.{sealed}
use Rattle.seqs.proofs.FirstBlock.{ends_laid}
use Rattle.fips180.specs.Kinds.{size, field}
use Rattle.fips180.specs.Takes.{HashesTo}
use Rattle.fips180.proofs.Lengths.{put_tail}

-- what is laid to the front
pub take_laid : (b d : List ℕ) → length d ≤ length b → take (length d) (paste b 0 d (length d)) ≡ d
take_laid b d h =
    let z : length d ≡ 0 + length d = omega arith in
    ap (λ (i : ℕ). take i (paste b 0 d (length d))) z ∙ take-paste b 0 d (length d) (omega arith) (omega arith) ∙ take_all (length d) d (omega arith)

-- a one bit behind d, and zeros, whatever stood there
pub sealed_by : (room : ℕ) (b d : List ℕ) (n : ℕ) → take n b ≡ d → sealed room b n ≡ d ++ (128 ∷ replicate (room - n - 1) 0)
sealed_by room b d n h = ap₂ (λ (x : List ℕ) (i : ℕ). x ++ (128 ∷ replicate i 0)) h (omega arith)

-- its front, up to where the length goes
pub front : (room : ℕ) (d : List ℕ) (n z i : ℕ) → length d ≡ n → n + 1 + z ≡ i → i ≤ room
    → take i (d ++ (128 ∷ replicate (room - n - 1) 0)) ≡ d ++ (128 ∷ replicate z 0)
front room d n z i e f h =
    let k : room - n - 1 ≡ z + (room - i) = omega arith in
    let l : length (d ++ (128 ∷ replicate z 0)) ≡ i = simp (length-append, length-replicate) (omega arith) in
    ap (λ (j : ℕ). take i (d ++ (128 ∷ replicate j 0))) k
    ∙ ap (λ (x : List ℕ). take i (d ++ (128 ∷ x))) (sym (replicate-append-replicate z (room - i) 0))
    ∙ ap (take i) (sym (append_assoc d (128 ∷ replicate z 0) (replicate (room - i) 0)))
    ∙ take_at (d ++ (128 ∷ replicate z 0)) (replicate (room - i) 0) i l

-- three pieces, and a one bit behind them
pub pieces : (room : ℕ) (x y z z0 : List ℕ) {b1 b2 b3 : List ℕ} → length z0 ≡ room
    → b1 ≡ paste z0 0 x (length x) → b2 ≡ paste b1 (length x) y (length y) → b3 ≡ paste b2 (length x + length y) z (length z)
    → length x + length y + length z < room
    → sealed (length b3) b3 (length x + length y + length z) ≡ (x ++ (y ++ z)) ++ (128 ∷ replicate (room - (length x + length y + length z) - 1) 0)
pieces room x y z z0 {b1} {b2} {b3} l p q r h =
    let n = length x + length y + length z in
    let l1 : length b1 ≡ room = ap length p ∙ length-paste z0 0 x (length x) (omega arith) (omega arith) ∙ l in
    let l2 : length b2 ≡ room = ap length q ∙ length-paste b1 (length x) y (length y) (omega arith) (omega arith) ∙ l1 in
    let l3 : length b3 ≡ room = ap length r ∙ length-paste b2 (length x + length y) z (length z) (omega arith) (omega arith) ∙ l2 in
    let t1 : take (length x) b1 ≡ x = ap (take (length x)) p ∙ take_laid z0 x (omega arith) in
    let t2 : take (length x + length y) b2 ≡ x ++ y =
    ap (take (length x + length y)) q ∙ take-paste b1 (length x) y (length y) (omega arith) (omega arith)
    ∙ ap₂ (λ (i j : List ℕ). i ++ j) t1 (take_all (length y) y (omega arith)) in
    let t3 : take n b3 ≡ x ++ (y ++ z) =
    ap (take n) r ∙ take-paste b2 (length x + length y) z (length z) (omega arith) (omega arith)
    ∙ ap₂ (λ (i j : List ℕ). i ++ j) t2 (take_all (length z) z (omega arith)) ∙ append_assoc x y z in
    ap (λ (i : ℕ). sealed i b3 n) l3 ∙ sealed_by room b3 (x ++ (y ++ z)) n t3

module _ {S : Type 0} (n : ℕ) (step : S → List ℕ → S) (s : S) (b : List ℕ) where
  after_one : after n step s 1 b ≡ step s (take n b)
  unfolding after
  after_one = ap (λ (i : ℕ). step s (take n (drop i b))) (mul-zero n)

  after_two : after n step s 2 b ≡ step (step s (take n b)) (take n (drop n b))
  unfolding after
  after_two = ap₂ (λ (i j : ℕ). step (step s (take n (drop i b))) (take n (drop j b))) (mul-zero n) (mul-one n)

same : (F : Sha2) (d : List ℕ) (n : ℕ) → length d ≡ n → in_bytes big (field F) (8 * (size F + n)) ≡ in_bytes big (field F) (8 * (size F + length d))
same F d n e = ap (λ (i : ℕ). in_bytes big (field F) (8 * (size F + i))) (sym e)

module _ (F : Sha2) (few : 0 < F.bytes) (first : Value) {s : Value} (k : List ℕ) (whole : length k ≡ size F) (taken : s ≡ step F first k) (d : List ℕ) (n : ℕ) (e : length d ≡ n) {b : List ℕ} (laid : b ≡ d ++ (128 ∷ replicate (2 * size F - n - 1) 0)) where
  -- the length goes into the first block
  pub in_one : {new : List ℕ} → n < size F - field F → new ≡ take (size F - field F) (take (size F) b) ++ in_bytes big (field F) (8 * (size F + n))
      → HashesTo F first (k ++ d) (step F s (take (size F) (new ++ drop (size F) b)))
  in_one {new} h p =
      let z = size F - (n + 1 + field F) in
      let f : new ≡ d ++ ((128 ∷ replicate z 0) ++ in_bytes big (field F) (8 * (size F + length d))) =
      p
      ∙ ap₂ (λ (x y : List ℕ). x ++ y)
      (take-take (size F - field F) (size F) b (omega arith) ∙ ap (take (size F - field F)) laid ∙ front (2 * size F) d n z (size F - field F) e (omega arith) (omega arith))
      (same F d n e)
      ∙ append_assoc d (128 ∷ replicate z 0) _ in
      sym (ends_laid (size F) (omega arith) (step F) first whole taken d (field F) big z 1 (omega arith) (omega (arith, mul-one (size F))) (drop (size F) b) (ap (λ (x : List ℕ). x ++ drop (size F) b) f)
      ∙ after_one (size F) (step F) s (new ++ drop (size F) b))

  -- and where it doesn't, into the second
  pub in_two : {new : List ℕ} → size F - field F ≤ n → n + field F < 2 * size F → length b ≡ 2 * size F
      → new ≡ take (size F - field F) (take (length b - size F) (drop (size F) b)) ++ in_bytes big (field F) (8 * (size F + n))
      → HashesTo F first (k ++ d)
      (step F (step F s (take (size F) (put_mid (size F) (length b - size F) b new))) (take (size F) (drop (size F) (put_mid (size F) (length b - size F) b new))))
  in_two {new} h g m p =
      let z = 2 * size F - (n + 1 + field F) in
      let all : take (length b - size F) (drop (size F) b) ≡ drop (size F) b = take_all (length b - size F) (drop (size F) b) (simp length-drop (omega arith)) in
      let end = in_bytes big (field F) (8 * (size F + length d)) in
      let f : put_mid (size F) (length b - size F) b new ≡ (d ++ ((128 ∷ replicate z 0) ++ end)) ++ [] =
      put_tail (size F) b new
      ∙ ap (λ (x : List ℕ). take (size F) b ++ x) (p ∙ ap₂ (λ (x y : List ℕ). take (size F - field F) x ++ y) all (same F d n e))
      ∙ sym (append_assoc (take (size F) b) (take (size F - field F) (drop (size F) b)) end)
      ∙ ap (λ (x : List ℕ). x ++ end) (sym (take-add (size F) (size F - field F) b) ∙ ap (take (size F + (size F - field F))) laid ∙ front (2 * size F) d n z (size F + (size F - field F)) e (omega arith) (omega arith))
      ∙ append_assoc d (128 ∷ replicate z 0) end
      ∙ sym (append-nil _) in
      let two : size F * 2 ≡ 2 * size F = omega arith in
      sym (ends_laid (size F) (omega arith) (step F) first whole taken d (field F) big z 2 (omega arith) (omega (arith, two)) [] f
      ∙ after_two (size F) (step F) s (put_mid (size F) (length b - size F) b new))
