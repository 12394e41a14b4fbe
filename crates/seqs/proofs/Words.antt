-- Words and their bytes: how long they are, and one word more.
-- Assumes nothing.
use mathlib.Core.Path.{◌≡◌, refl, ◌∙◌, ap}
use mathlib.Core.List.{List, [], ◌∷◌, ◌++◌, append_assoc, append-nil}
use Prim.Native.Nat.{ℕ, zero, suc, ◌+◌, ◌*◌, ◌/◌, ◌%◌, ◌^◌, ◌≤◌, ◌<◌}
use native.Mathlib.Nat.{div-one}
use native.Mathlib.Numerals.{add-one, add-two, add-three, add-four, add_five, add_six, add_seven}
use native.Mathlib.Omega.{arith}
use lib.ListN.{length, take, drop, get_or, replicate}
use lib.Seq.{take-suc, take-take, drop-drop, drop-cons}
use Rattle.seqs.specs.Tab.{tab}
use Rattle.seqs.specs.Blocks.{block_at}
use Rattle.seqs.specs.Words.{ByteOrder, big, place, in_bytes, bytes_of}
use Rattle.seqs.proofs.Tab.{length-tab}

pub length-in_bytes : (o : ByteOrder) (w x : ℕ) → length (in_bytes o w x) ≡ w
unfolding in_bytes
length-in_bytes o w x = length-tab w (λ i. x / 256 ^ place o w i % 256)

bytes_of-append : (o : ByteOrder) (w : ℕ) (xs ys : List ℕ) → bytes_of o w (xs ++ ys) ≡ bytes_of o w xs ++ bytes_of o w ys
unfolding bytes_of
bytes_of-append o w [] ys = refl
bytes_of-append o w (x ∷ xs) ys = rw (bytes_of-append o w xs ys, append_assoc)

-- the bytes of one word more
pub bytes_of-more : (o : ByteOrder) (w : ℕ) (l : List ℕ) (t : ℕ) → t < length l
    → bytes_of o w (take (t + 1) l) ≡ bytes_of o w (take t l) ++ in_bytes o w (get_or l t 0)
unfolding bytes_of
bytes_of-more o w l t h = rw (add-one, take-suc l t 0, bytes_of-append, append-nil)

-- a part of the first n, where it lies before their end
part_of : (k w n : ℕ) (l : List ℕ) → k + w ≤ n → take w (drop k (take n l)) ≡ take w (drop k l)
part_of zero w n l h = take-take w n l (omega arith)
part_of (suc k) w zero l h = absurd (omega arith)
part_of (suc k) w (suc n) [] h = refl
part_of (suc k) w (suc n) (x ∷ xs) h = part_of k w n xs (omega arith)

-- word t of the n bytes from index at on
pub word_in : (w n at : ℕ) (b : List ℕ) (t : ℕ) → w * t + w ≤ n → block_at w (take n (drop at b)) t ≡ take w (drop (at + w * t) b)
word_in w n at b t h = part_of (w * t) w n (drop at b) h ∙ ap (take w) (drop-drop (w * t) at b)

-- four bytes one by one
pub four_at : (b : List ℕ) (i : ℕ) → i + 4 ≤ length b → take 4 (drop i b) ≡ get_or b i 0 ∷ get_or b (i + 1) 0 ∷ get_or b (i + 2) 0 ∷ get_or b (i + 3) 0 ∷ []
four_at b i h = rw (drop-cons b i 0 (omega arith), drop-cons b (suc i) 0 (omega arith), drop-cons b (suc (suc i)) 0 (omega arith), drop-cons b (suc (suc (suc i))) 0 (omega arith), add-one, add-two, add-three)

pub eight_at : (b : List ℕ) (i : ℕ) → i + 8 ≤ length b
    → take 8 (drop i b)
    ≡ get_or b i 0 ∷ get_or b (i + 1) 0 ∷ get_or b (i + 2) 0 ∷ get_or b (i + 3) 0 ∷ get_or b (i + 4) 0 ∷ get_or b (i + 5) 0 ∷ get_or b (i + 6) 0 ∷ get_or b (i + 7) 0 ∷ []
eight_at b i h =
    rw (
      drop-cons b i 0 (omega arith),
      drop-cons b (suc i) 0 (omega arith),
      drop-cons b (suc (suc i)) 0 (omega arith),
      drop-cons b (suc (suc (suc i))) 0 (omega arith),
      drop-cons b (suc (suc (suc (suc i)))) 0 (omega arith),
      drop-cons b (suc (suc (suc (suc (suc i))))) 0 (omega arith),
      drop-cons b (suc (suc (suc (suc (suc (suc i)))))) 0 (omega arith),
      drop-cons b (suc (suc (suc (suc (suc (suc (suc i))))))) 0 (omega arith),
      add-one,
      add-two,
      add-three,
      add-four,
      add_five,
      add_six,
      add_seven,
    )

-- a number in four bytes, and the bytes of one word more
abbrev pub four : ℕ → List ℕ
four x = x / 2 ^ 24 % 256 ∷ x / 2 ^ 16 % 256 ∷ x / 2 ^ 8 % 256 ∷ x % 256 ∷ []

four_bytes : (x : ℕ) → in_bytes big 4 x ≡ four x
unfolding in_bytes tab
four_bytes x = rw div-one

pub four_more : (w : List ℕ) (t : ℕ) → t < length w → bytes_of big 4 (take (t + 1) w) ≡ bytes_of big 4 (take t w) ++ four (get_or w t 0)
four_more w t h = bytes_of-more big 4 w t h ∙ ap (λ (l : List ℕ). bytes_of big 4 (take t w) ++ l) (four_bytes (get_or w t 0))

-- and in eight
abbrev pub eight : ℕ → List ℕ
eight x =
    x / 2 ^ 56 % 256 ∷ x / 2 ^ 48 % 256 ∷ x / 2 ^ 40 % 256 ∷ x / 2 ^ 32 % 256 ∷ x / 2 ^ 24 % 256
    ∷ x / 2 ^ 16 % 256 ∷ x / 2 ^ 8 % 256 ∷ x % 256 ∷ []

pub eight_bytes : (x : ℕ) → in_bytes big 8 x ≡ eight x
unfolding in_bytes tab
eight_bytes x = rw div-one

pub eight_more : (w : List ℕ) (t : ℕ) → t < length w → bytes_of big 8 (take (t + 1) w) ≡ bytes_of big 8 (take t w) ++ eight (get_or w t 0)
eight_more w t h = bytes_of-more big 8 w t h ∙ ap (λ (l : List ℕ). bytes_of big 8 (take t w) ++ l) (eight_bytes (get_or w t 0))

-- a number of eight bytes, in sixteen
pub sixteen_bytes : (x : ℕ) → x < 2 ^ 64 → in_bytes big 16 x ≡ replicate 8 0 ++ eight x
unfolding in_bytes tab
sixteen_bytes x h =
    let a : x / 256 ^ 15 % 256 ≡ 0 = omega arith in
    let b : x / 256 ^ 14 % 256 ≡ 0 = omega arith in
    let c : x / 256 ^ 13 % 256 ≡ 0 = omega arith in
    let d : x / 256 ^ 12 % 256 ≡ 0 = omega arith in
    let e : x / 256 ^ 11 % 256 ≡ 0 = omega arith in
    let f : x / 256 ^ 10 % 256 ≡ 0 = omega arith in
    let g : x / 256 ^ 9 % 256 ≡ 0 = omega arith in
    let i : x / 256 ^ 8 % 256 ≡ 0 = omega arith in
    rw (a, b, c, d, e, f, g, i, div-one)
