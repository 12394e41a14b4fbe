-- A length in the last bytes of a block.
-- Assumes nothing.
use Rattle.std.proofs.Common.{◌≡◌, ℕ, ◌-◌, ◌^◌, ◌<◌, List, ◌++◌, length, take, drop, replicate, sym, ap, ◌∙◌, append-nil, append_assoc, arith, take_at, drop_of_length-le, length-append, length-drop, length-take-le}
use borrow.Rule.Slice.PartMut.{put_mid}
use Rattle.seqs.specs.Words.{big, in_bytes}
use Rattle.seqs.proofs.Words.{eight, eight_bytes, sixteen_bytes}

-- a part that goes to the end
pub put_tail : (i : ℕ) (b y : List ℕ) → put_mid i (length b - i) b y ≡ take i b ++ y
put_tail i b y =
    ap (λ (l : List ℕ). take i b ++ (y ++ l)) (drop_of_length-le (drop i b) {i = length b - i} (simp length-drop (omega arith)))
    ∙ ap (λ (l : List ℕ). take i b ++ l) (append-nil y)

pub put_low : (b : List ℕ) (x : ℕ) → put_mid 56 (length b - 56) b (eight x) ≡ take 56 b ++ in_bytes big 8 x
put_low b x = put_tail 56 b (eight x) ∙ ap (λ (l : List ℕ). take 56 b ++ l) (sym (eight_bytes x))

pub put_high : (b z : List ℕ) (x : ℕ) → length b ≡ 128 → z ≡ replicate 8 0 → x < 2 ^ 64
    → put_mid 120 (length (put_mid 112 8 b z) - 120) (put_mid 112 8 b z) (eight x) ≡ take 112 b ++ in_bytes big 16 x
put_high b z x e f h =
    let y = drop 8 (drop 112 b) in
    let t : length (take 112 b) ≡ 112 = length-take-le 112 b (omega arith) in
    let k : length z ≡ 8 = ap length f in
    let n : length (take 112 b ++ z) ≡ 120 = simp length-append (omega arith) in
    put_tail 120 (put_mid 112 8 b z) (eight x)
    ∙ ap (λ (l : List ℕ). l ++ eight x) (ap (take 120) (sym (append_assoc (take 112 b) z y)) ∙ take_at (take 112 b ++ z) y 120 n)
    ∙ append_assoc (take 112 b) z (eight x)
    ∙ ap (λ (l : List ℕ). take 112 b ++ l) (ap (λ (l : List ℕ). l ++ eight x) f ∙ sym (sixteen_bytes x h))
