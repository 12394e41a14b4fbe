-- A hash that has taken one block, and a message that has a few bytes more: its last block, or blocks, over the block's size, the width of
-- the length field and its byte order.
-- Assumes nothing.
use mathlib.Core.Path.{◌≡◌, sym, ◌∙◌, ap, ap₂}
use mathlib.Core.List.{List, [], ◌∷◌, ◌++◌, append_assoc}
use Prim.Native.Nat.{ℕ, ◌+◌, ◌-◌, ◌*◌, ◌/◌, ◌≤◌, ◌<◌}
use native.Mathlib.Nat.{mul-add, mul-one, mul-div_right, sub-zero, zero-mod}
use native.Mathlib.Omega.{arith}
use lib.ListN.{length, drop, replicate, length-append, length-replicate, drop_of_length-le}
use Rattle.seqs.specs.Blocks.{after}
use Rattle.seqs.specs.Words.{ByteOrder, in_bytes}
use Rattle.seqs.specs.Padding.{pad, padding, zeros}
use Rattle.seqs.specs.Taken.{Holds}
use Rattle.seqs.proofs.Blocks.{after_append}
use Rattle.seqs.proofs.Words.{length-in_bytes}
use Rattle.seqs.proofs.Taking.{holds_none, holds_more}
use Rattle.seqs.proofs.Ending.{zeros_are, rest_only, one_block}

-- d, a one bit, zeros, and the bits of a block and d
abbrev pub last_block : ℕ → ℕ → ByteOrder → List ℕ → List ℕ
last_block size width order d =
    d ++ ((128 ∷ replicate (size - (length d + 1 + width)) 0) ++ in_bytes order width (8 * (size + length d)))

pub length_last_block : (size width : ℕ) (order : ByteOrder) (d : List ℕ) → length d + width < size → length (last_block size width order d) ≡ size
length_last_block size width order d h = simp (length-append, length-replicate, length-in_bytes) (omega arith)

module _ {S : Type 0} (size : ℕ) (positive : 0 < size) (step : S → List ℕ → S) (initial : S) {s : S} {k : List ℕ} (whole : length k ≡ size) (taken : s ≡ step initial k) where
  -- nothing waits
  pub holds_one : Holds size step initial s (replicate size 0) size k
  holds_one =
      let n : size * 1 ≡ size = mul-one size in
      let z : drop (size * 1) k ≡ drop size k = ap (λ (i : ℕ). drop i k) n in
      holds_more size positive step initial [] k (holds_none size positive step initial) 0 1 0 (sym (zero-mod size))
      (sym whole ∙ (omega arith))
      (omega (arith, n))
      positive
      (taken ∙ sym (one_block size positive step initial initial k whole))
      (ap (λ (l : List ℕ). l ++ replicate size 0) (sym (z ∙ drop_of_length-le k {i = size} (omega arith))) ∙ ap (λ (i : ℕ). drop (size * 1) k ++ replicate i 0) (sym (sub-zero size)))

  module _ (d : List ℕ) (width : ℕ) (order : ByteOrder) where
    -- the padded message, when z zero bytes bring it to j blocks more than the first
    pub ends_in : (z j : ℕ) → z < size → length d + 1 + width + z ≡ size * j
        → after size step initial (length (pad size width order (k ++ d)) / size) (pad size width order (k ++ d))
        ≡ after size step s j (d ++ ((128 ∷ replicate z 0) ++ in_bytes order width (8 * (size + length d))))
    unfolding padding
    ends_in z j b e =
        let n : length (k ++ d) ≡ size + length d = simp length-append (omega arith) in
        let q : length (k ++ d) + 1 + width + z ≡ size * (1 + j) = rw (mul-add size 1 j) (omega (arith, mul-one size)) in
        let y : zeros size width (length (k ++ d)) ≡ z = zeros_are size width (length (k ++ d)) z (1 + j) positive b q in
        let p : List ℕ = (128 ∷ replicate z 0) ++ in_bytes order width (8 * (size + length d)) in
        let f : pad size width order (k ++ d) ≡ k ++ (d ++ p) =
        ap₂ (λ (i l : ℕ). (k ++ d) ++ ((128 ∷ replicate i 0) ++ in_bytes order width (8 * l))) y n ∙ append_assoc k d p in
        let t : length (k ++ (d ++ p)) ≡ size * (1 + j) = simp (length-append, length-replicate, length-in_bytes) (omega arith) in
        let w : length (pad size width order (k ++ d)) / size ≡ 1 + j = ap (λ (x : List ℕ). length x / size) f ∙ ap (λ (i : ℕ). i / size) t ∙ mul-div_right (1 + j) positive in
        let g : size * 1 ≤ length k = omega (arith, mul-one size) in
        ap₂ (λ (i : ℕ) (x : List ℕ). after size step initial i x) w f
        ∙ rest_only size positive step initial 1 j k (d ++ p) g
        ∙ ap₂ (λ (x : S) (l : List ℕ). after size step x j (l ++ (d ++ p))) (one_block size positive step initial initial k whole ∙ sym taken) (drop_of_length-le k {i = size * 1} (omega (arith, mul-one size)))

    -- the same, where the blocks are laid out with more behind them
    pub ends_laid : (z j : ℕ) → z < size → length d + 1 + width + z ≡ size * j → {blocks : List ℕ} (rest : List ℕ)
        → blocks ≡ (d ++ ((128 ∷ replicate z 0) ++ in_bytes order width (8 * (size + length d)))) ++ rest
        → after size step initial (length (pad size width order (k ++ d)) / size) (pad size width order (k ++ d)) ≡ after size step s j blocks
    ends_laid z j b e rest laid =
        let t : List ℕ = d ++ ((128 ∷ replicate z 0) ++ in_bytes order width (8 * (size + length d))) in
        let n : size * j ≤ length t = simp (length-append, length-replicate, length-in_bytes) (omega arith) in
        ends_in z j b e ∙ sym (after_append size step s j t rest n) ∙ ap (after size step s j) (sym laid)

    pub ends_by : length d + width < size
        → after size step initial (length (pad size width order (k ++ d)) / size) (pad size width order (k ++ d)) ≡ step s (last_block size width order d)
    ends_by h =
        ends_in (size - (length d + 1 + width)) 1 (omega arith) (omega (arith, mul-one size))
        ∙ one_block size positive step initial s (last_block size width order d) (length_last_block size width order d h)
