-- The end of a message, laid out by hand in blocks of zeros: its pieces, a one bit behind them, and a length of two bytes.
-- Assumes nothing.
use mathlib.Core.Path.{◌≡◌, refl, sym, ◌∙◌, ap, ap₂}
use mathlib.Core.List.{List, [], ◌∷◌, ◌++◌, append_assoc}
use Prim.Native.Nat.{ℕ, suc, ◌+◌, ◌-◌, ◌*◌, ◌/◌, ◌%◌, ◌^◌, ◌<◌}
use native.Mathlib.Omega.{arith}
use lib.ListN.{length, drop, set, replicate, length-append, length-replicate, replicate-append-replicate}
use lib.Seq.{take_at, take-length, drop-append-add, set_at, paste}
use Rattle.seqs.specs.Blocks.{after}
use Rattle.seqs.specs.Words.{big, in_bytes}
use Rattle.seqs.specs.Padding.{pad}
use Rattle.seqs.proofs.Words.{eight, eight_bytes, sixteen_bytes}
use Rattle.seqs.proofs.Zeros.{drop-zeros}
use Rattle.seqs.proofs.FirstBlock.{ends_laid}

-- a number of two bytes, in eight and in sixteen
small : (x : ℕ) → x < 65536 → eight x ≡ replicate 6 0 ++ (x / 256 ∷ x % 256 ∷ [])
small x h =
    let a : x / 2 ^ 56 % 256 ≡ 0 = omega arith in
    let b : x / 2 ^ 48 % 256 ≡ 0 = omega arith in
    let c : x / 2 ^ 40 % 256 ≡ 0 = omega arith in
    let d : x / 2 ^ 32 % 256 ≡ 0 = omega arith in
    let e : x / 2 ^ 24 % 256 ≡ 0 = omega arith in
    let f : x / 2 ^ 16 % 256 ≡ 0 = omega arith in
    let g : x / 2 ^ 8 % 256 ≡ x / 256 = omega arith in
    rw (a, b, c, d, e, f, g)

pub two_in_eight : (x : ℕ) → x < 65536 → in_bytes big 8 x ≡ replicate 6 0 ++ (x / 256 ∷ x % 256 ∷ [])
two_in_eight x h = eight_bytes x ∙ small x h

pub two_in_sixteen : (x : ℕ) → x < 65536 → in_bytes big 16 x ≡ replicate 14 0 ++ (x / 256 ∷ x % 256 ∷ [])
two_in_sixteen x h = sixteen_bytes x (omega arith) ∙ ap (λ (l : List ℕ). replicate 8 0 ++ l) (small x h)

-- a piece goes behind what is laid out
pub behind : (p s : List ℕ) (m at : ℕ) → length p ≡ at → paste (p ++ replicate m 0) at s (length s) ≡ (p ++ s) ++ replicate (m - length s) 0
behind p s m at e =
    ap₂ (λ (x y : List ℕ). (x ++ y) ++ drop (at + length s) (p ++ replicate m 0)) (take_at p (replicate m 0) at e) (take-length s)
    ∙ ap (λ (i : ℕ). (p ++ s) ++ drop (i + length s) (p ++ replicate m 0)) (sym e)
    ∙ ap (λ (l : List ℕ). (p ++ s) ++ l) (drop-append-add p (replicate m 0) (length s) ∙ drop-zeros (length s) m)

-- three pieces, one after the other
pub three : (room : ℕ) (a b c : List ℕ)
    → paste (paste (paste (replicate room 0) 0 a (length a)) (length a) b (length b)) (length a + length b) c (length c)
    ≡ (a ++ (b ++ c)) ++ replicate (room - (length a + length b + length c)) 0
three room a b c =
    let u : room - length a - length b - length c ≡ room - (length a + length b + length c) = omega arith in
    ap (λ (l : List ℕ). paste (paste l (length a) b (length b)) (length a + length b) c (length c)) (behind [] a room 0 refl)
    ∙ ap (λ (l : List ℕ). paste l (length a + length b) c (length c)) (behind a b (room - length a) (length a) refl)
    ∙ behind (a ++ b) c (room - length a - length b) (length a + length b) (length-append a b)
    ∙ ap₂ (λ (l : List ℕ) (k : ℕ). l ++ replicate k 0) (append_assoc a b c) u

-- the one bit, and the two bytes u and v at index at: w zeros before them are the field's, and z the padding's
laid_out : (d : List ℕ) (n z w rest at room u v : ℕ) → length d ≡ n → n + 1 + z + w ≡ at → at + 2 + rest ≡ room
    → set (set (set (d ++ replicate (room - n) 0) n 128) at u) (at + 1) v
    ≡ (d ++ ((128 ∷ replicate z 0) ++ (replicate w 0 ++ (u ∷ v ∷ [])))) ++ replicate rest 0
laid_out d n z w rest at room u v e f g =
    let k : room - n ≡ suc (z + (w + suc (suc rest))) = omega arith in
    let front : List ℕ = d ++ ((128 ∷ replicate z 0) ++ replicate w 0) in
    let end : List ℕ = replicate z 0 ++ (replicate w 0 ++ (0 ∷ 0 ∷ replicate rest 0)) in
    let y : replicate (z + (w + suc (suc rest))) 0 ≡ end =
    sym (replicate-append-replicate z (w + suc (suc rest)) 0) ∙ ap (λ (l : List ℕ). replicate z 0 ++ l) (sym (replicate-append-replicate w (suc (suc rest)) 0)) in
    let x : replicate (room - n) 0 ≡ 0 ∷ end = ap (λ (i : ℕ). replicate i 0) k ∙ ap (λ (l : List ℕ). 0 ∷ l) y in
    let p : length front ≡ at = simp (length-append, length-replicate) (omega arith) in
    let q : length (front ++ (u ∷ [])) ≡ at + 1 = length-append front (u ∷ []) ∙ (omega arith) in
    let t : d ++ (128 ∷ end) ≡ front ++ (0 ∷ 0 ∷ replicate rest 0) = simp append_assoc in
    ap (λ (l : List ℕ). set (set (set (d ++ l) n 128) at u) (at + 1) v) x
    ∙ ap (λ (l : List ℕ). set (set l at u) (at + 1) v) (set_at d 0 end 128 n e ∙ t)
    ∙ ap (λ (l : List ℕ). set l (at + 1) v) (set_at front 0 (0 ∷ replicate rest 0) u at p ∙ sym (append_assoc front (u ∷ []) (0 ∷ replicate rest 0)))
    ∙ set_at (front ++ (u ∷ [])) 0 (replicate rest 0) v (at + 1) q
    ∙ simp append_assoc

-- what is laid out in so many zeros: d, of n bytes, a one bit, and the bits of a block and d in the two bytes at index at
abbrev pub by_hand : ℕ → ℕ → ℕ → ℕ → List ℕ → List ℕ
by_hand size room n at d =
    set (set (set (d ++ replicate (room - n) 0) n 128) at (8 * (size + n) / 256)) (at + 1) (8 * (size + n) % 256)

-- it ends the message, whose length field is of w + 2 bytes, where it ends at the end of block j
pub ends_by_hand : {S : Type 0} (size : ℕ) (positive : 0 < size) (step : S → List ℕ → S) (initial : S) {s : S} {k : List ℕ} → length k ≡ size → s ≡ step initial k
    → (d : List ℕ) (w z j rest at n room : ℕ) → length d ≡ n
    → in_bytes big (w + 2) (8 * (size + n)) ≡ replicate w 0 ++ (8 * (size + n) / 256 ∷ 8 * (size + n) % 256 ∷ [])
    → z < size → n + 1 + z + w ≡ at → at + 2 ≡ size * j → at + 2 + rest ≡ room
    → after size step initial (length (pad size (w + 2) big (k ++ d)) / size) (pad size (w + 2) big (k ++ d)) ≡ after size step s j (by_hand size room n at d)
ends_by_hand size positive step initial {s} {k} whole taken d w z j rest at n room e field b f g h =
    let t : in_bytes big (w + 2) (8 * (size + length d)) ≡ replicate w 0 ++ (8 * (size + n) / 256 ∷ 8 * (size + n) % 256 ∷ []) =
    ap (λ (i : ℕ). in_bytes big (w + 2) (8 * (size + i))) e ∙ field in
    ends_laid size positive step initial whole taken d (w + 2) big z j b (omega arith) (replicate rest 0)
    (laid_out d n z w rest at room (8 * (size + n) / 256) (8 * (size + n) % 256) e f h ∙ ap (λ (l : List ℕ). (d ++ ((128 ∷ replicate z 0) ++ l)) ++ replicate rest 0) (sym t))
