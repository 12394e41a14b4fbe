-- Bytes that are taken: the block that is completed, what is left over, and both together.
-- Assumes nothing.
use Rattle.std.proofs.Common.{◌≡◌, ℕ, ◌+◌, ◌-◌, ◌*◌, ◌%◌, ◌<◌, ◌≤◌, List, ◌++◌, length, take, drop, replicate, sym, ap, ◌∙◌, ap₂, refl, arith, take_all, length-drop, length-take-le}
use lib.Seq.{paste, take-length}
use Rattle.seqs.specs.Blocks.{after}
use Rattle.seqs.specs.Sha2.{Sha2, Value, step}
use Rattle.seqs.proofs.Taking.{holds_more, blocks_of, left_over}
use Rattle.fips180.specs.Kinds.{size}
use Rattle.fips180.specs.Takes.{HoldsBytes, TakesBytes}

-- the first of the new bytes, behind what waits
pub filled_up : (n at : ℕ) (t b : List ℕ) → n - at ≤ length b → paste t at (take (n - at) b) (length (take (n - at) b)) ≡ paste t at b (n - at)
filled_up n at t b h =
    ap₂ (λ (x : List ℕ) (i : ℕ). take at t ++ x ++ drop (at + i) t) (take-length (take (n - at) b)) (length-take-le (n - at) b h)

-- the last of them, in an empty block
pub left_behind : (n : ℕ) (p b z : List ℕ) (j left : ℕ) → length p + length b ≡ n * j + left → left ≤ length b → z ≡ replicate n 0
    → paste z 0 (take (length b - (length b - left)) (drop (length b - left) b)) (length (take (length b - (length b - left)) (drop (length b - left) b)))
    ≡ drop (n * j) (p ++ b) ++ replicate (n - left) 0
left_behind n p b z j left e h f =
    let r = drop (length b - left) b in
    let l : length r ≡ left = simp length-drop (omega arith) in
    ap (λ (x : List ℕ). paste z 0 x (length x)) (take_all (length b - (length b - left)) r (omega arith))
    ∙ ap₂ (λ (x : List ℕ) (i : ℕ). paste x 0 r i) f l
    ∙ left_over n p b j left e h

-- j blocks are worked, and left bytes wait
pub takes : (F : Sha2) (first : Value) {value next : Value} {t rest : List ℕ} (b : List ℕ) {taken worked : ℕ} (j left : ℕ) → 0 < size F
    → taken % size F + length b ≡ size F * j + left → left < size F
    → next ≡ after (size F) (step F) value j (take (taken % size F) t ++ b)
    → ((m : List ℕ) → HoldsBytes F first value t taken m → rest ≡ drop (size F * j) (take (taken % size F) t ++ b) ++ replicate (size F - left) 0)
    → length rest ≡ size F → worked ≡ j
    → TakesBytes F first value t taken b next rest worked
takes F first b {taken} j left pos n r p q l e =
    record {
      runs = λ m h. holds_more (size F) pos (step F) first m b h (taken % size F) j left (ap (λ (i : ℕ). i % size F) h.counted) refl n r p (q m h);
      counts = e ∙ sym (blocks_of (size F) pos j left n r);
      long = l;
    }
