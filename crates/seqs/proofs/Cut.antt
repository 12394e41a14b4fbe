-- A list without one element, by the loop that shifts the elements behind it down by one.
-- Assumes nothing.
use mathlib.Core.Path.{◌≡◌, refl, sym, ◌∙◌, ap}
use mathlib.Core.List.{List, [], ◌∷◌, append_assoc, append-nil}
use Prim.Native.Nat.{ℕ, zero, suc, ◌+◌, ◌≤◌, ◌<◌}
use native.Mathlib.Numerals.{add-one}
use native.Mathlib.Omega.{arith}
use lib.ListN.{length, take, drop, set, get_or, length-set, length-take, drop_of_length-le}
use lib.Seq.{take_all, take-take, take-append-le, drop-append-le, take-suc, take-suc-set, drop-set-lt, drop-drop, get_or-drop}
use Rattle.seqs.specs.Cut.{cut}

module _ {A : Type 0} where
  -- there is none
  pub cut_past : (i : ℕ) (l : List A) → length l ≤ i → cut i l ≡ l
  unfolding cut
  cut_past i l h = rw (take_all, drop_of_length-le l {i = suc i} (omega arith), append-nil)

  -- as many as there are is what `take` took: for a count that may be past the end
  pub take_measure : (m : ℕ) (l : List A) → take (length (take m l)) l ≡ take m l
  take_measure zero l = refl
  take_measure (suc m) [] = refl
  take_measure (suc m) (x ∷ xs) = ap (λ (r : List A). x ∷ r) (take_measure m xs)

  -- rows is l with the elements from i + 1 to j moved down by one
  pub record Shifted (l rows : List A) (i j : ℕ) : Type 0 where
    pub from : i ≤ j
    pub below : j < length l
    pub long : length rows ≡ length l
    pub moved : take j rows ≡ cut i (take (j + 1) l)
    pub rest : drop j rows ≡ drop j l

  pub shifted_none : (l : List A) (i : ℕ) → i < length l → Shifted l l i i
  unfolding cut
  shifted_none l i h =
      let le : i ≤ suc i = omega arith in
      let d : length (take (suc i) l) ≤ suc i = rw length-take (omega arith) in
      record {
        from = omega arith;
        below = h;
        long = refl;
        moved = rw (add-one, take-take, drop_of_length-le (take (suc i) l) {i = suc i} d, append-nil);
        rest = refl;
      }

  pub shifted_more : (l rows : List A) (i j : ℕ) (d : A) → Shifted l rows i j → j + 1 < length l
      → Shifted l (set rows j (get_or rows (j + 1) d)) i (j + 1)
  unfolding cut
  shifted_more l rows i j d s h =
      let v : get_or rows (j + 1) d ≡ get_or l (j + 1) d = sym (get_or-drop j rows 1 d) ∙ ap (λ (r : List A). get_or r 1 d) s.rest ∙ get_or-drop j l 1 d in
      let f : i ≤ j = s.from in
      let b : j < length rows = omega (arith, s.long, s.below) in
      let t : length (take (suc j) l) ≡ suc j = rw length-take (omega arith) in
      let u : i ≤ length (take (suc j) l) = omega arith in
      let w : suc i ≤ length (take (suc j) l) = omega arith in
      let n : suc j < length l = omega arith in
      record {
        from = omega arith;
        below = h;
        long = length-set rows j (get_or rows (j + 1) d) ∙ s.long;
        moved =
            ap (λ (k : ℕ). take k (set rows j (get_or rows (j + 1) d))) (add-one j)
            ∙ take-suc-set rows j (get_or rows (j + 1) d) b
            ∙ (rw (s.moved, v, add-one j, add-one (suc j), take-suc l (suc j) d n, take-append-le i (take (suc j) l) _ u, drop-append-le (suc i) (take (suc j) l) _ w, append_assoc));
        rest =
            drop-set-lt (j + 1) rows j (get_or rows (j + 1) d) (omega arith)
            ∙ sym (drop-drop 1 j rows)
            ∙ ap (λ (r : List A). drop 1 r) s.rest
            ∙ drop-drop 1 j l;
      }
