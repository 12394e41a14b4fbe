-- Bytes put to a place of a buffer: one after the other they are put there together.
-- Assumes nothing.
use mathlib.Core.Path.{◌≡◌, sym, ◌∙◌, ap, ap₂}
use mathlib.Core.List.{List, [], ◌∷◌, ◌++◌, append_assoc}
use Prim.Native.Nat.{ℕ, suc, ◌+◌, ◌-◌, ◌≤◌, ◌<◌}
use native.Mathlib.Nat.{zero-add}
use native.Mathlib.Numerals.{add-one}
use native.Mathlib.Omega.{arith}
use lib.ListN.{length, take, drop, set, length-append, length-drop}
use lib.Seq.{take_at, drop_at, drop-drop, length-take-le, take-length, set_split, sets-eq, append_snoc, paste-zero}
use borrow.Rule.Slice.PartMut.{mid_of, put_mid}
use Rattle.octets.specs.Put.{put_list}
use Rattle.octets.proofs.Places.{put_at}
use Rattle.octets.specs.Placed.{placed}

module _ (d : List ℕ) (at : ℕ) where
  pub placed_nothing : placed d at [] ≡ d
  unfolding placed
  placed_nothing = sym (paste-zero d at [])

  pub placed_one : (x : ℕ) → at < length d → set d at x ≡ placed d at (x ∷ [])
  unfolding placed
  placed_one x h = rw add-one (set_split d at x h ∙ sym (append_snoc (take at d) x (drop (suc at) d)))

  pub placed_two : (x y : ℕ) → at + 2 ≤ length d → set (set d at x) (at + 1) y ≡ placed d at (x ∷ y ∷ [])
  unfolding placed
  placed_two x y h = rw add-one (sets-eq (x ∷ y ∷ []) d at h)

  -- what octets::put wrote from an index on
  pub placed_put : {p : List ℕ} (s : List ℕ) → at + length s ≤ length d → p ≡ put_list (mid_of at (length d - at) d) s
      → put_mid at (length d - at) d p ≡ placed d at s
  unfolding placed
  placed_put s h e = put_at d s at h e ∙ ap (λ (r : List ℕ). take at d ++ r ++ drop (at + length s) d) (take-length s)

  module _ (s : List ℕ) (h : at + length s ≤ length d) where
    head_long : length (take at d ++ s) ≡ at + length s
    head_long = length-append (take at d) s ∙ ap (λ (n : ℕ). n + length s) (length-take-le at d (omega arith))

    pub length-placed : length (placed d at s) ≡ length d
    unfolding placed
    length-placed = length-append (take at d ++ s) (drop (at + length s) d) ∙ (rw (head_long, length-drop) (omega arith))

    -- and the next bytes behind it
    pub placed_then : (to : ℕ) (t : List ℕ) → to ≡ at + length s → placed (placed d at s) to t ≡ placed d at (s ++ t)
    unfolding placed
    placed_then to t e =
        let n : length (take at d ++ s) ≡ to = head_long ∙ sym e in
        let i : at + length s + length t ≡ at + length (s ++ t) = omega (arith, length-append s t) in
        let k : take to (take at d ++ s ++ drop (at + length s) d) ≡ take at d ++ s = take_at _ _ to n in
        let l : drop (to + length t) (take at d ++ s ++ drop (at + length s) d) ≡ drop (at + length (s ++ t)) d =
        sym (drop-drop (length t) to _)
        ∙ ap (drop (length t)) (drop_at (take at d ++ s) (drop (at + length s) d) to n)
        ∙ drop-drop (length t) (at + length s) d
        ∙ ap (λ (j : ℕ). drop j d) i in
        ap₂ (λ (x y : List ℕ). x ++ t ++ y) k l ∙ ap (λ (x : List ℕ). x ++ drop (at + length (s ++ t)) d) (append_assoc (take at d) s t)

-- two writes, one behind the other, as their promises say them
pub placed_more : (d : List ℕ) {d₁ d₂ : List ℕ} (at to : ℕ) (s t : List ℕ) → at + length s ≤ length d → to ≡ at + length s
    → d₁ ≡ placed d at s → d₂ ≡ placed d₁ to t → d₂ ≡ placed d at (s ++ t)
placed_more d at to s t h e p q = q ∙ (rw p (placed_then d at s h to t e))

pub placed_front : (d s : List ℕ) → placed d 0 s ≡ s ++ drop (length s) d
unfolding placed
placed_front d s = rw zero-add
