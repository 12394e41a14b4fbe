-- Bytes put to a place: to the front of an array of zeros, and from an index of a lent buffer or of an array on. Every copy of bytes is one of these.
-- Assumes nothing.
use mathlib.Core.Path.{◌≡◌, ◌∙◌, ap}
use mathlib.Core.List.{List, [], ◌++◌, append_assoc, append-nil}
use Prim.Native.Nat.{ℕ, ◌+◌, ◌-◌, ◌≤◌}
use native.Mathlib.Omega.{arith}
use borrow.Author.Tests.{le-leb}
use borrow.Rule.Slice.PartMut.{mid_of, put_mid}
use lib.ListN.{length, take, drop, replicate, length-drop, length-replicate, drop_of_length-le}
use lib.Seq.{paste, take_all, take-length, drop-drop}
use Rattle.seqs.proofs.Zeros.{drop-zeros}
use Rattle.octets.specs.Put.{put_list}

-- s put to the front of what stands from index at on is pasted there
pub put_at : {p : List ℕ} (d s : List ℕ) (at : ℕ) → at + length s ≤ length d → p ≡ put_list (mid_of at (length d - at) d) s
    → put_mid at (length d - at) d p ≡ paste d at s (length s)
put_at {p} d s at h e =
    let n : length (drop at d) ≡ length d - at = length-drop at d in
    let m : mid_of at (length d - at) d ≡ drop at d = take_all (length d - at) (drop at d) (omega arith) in
    let o : drop (length d - at) (drop at d) ≡ [] = drop_of_length-le (drop at d) {i = length d - at} (omega arith) in
    let q : p ≡ s ++ drop (at + length s) d = rw (← drop-drop (length s) at d) (rw (m, le-leb (length s) (length (drop at d)) (omega arith)) at e) in
    ap (λ (r : List ℕ). take at d ++ (p ++ r)) o
    ∙ (rw (append-nil, take-length, append_assoc) (ap (λ (r : List ℕ). take at d ++ r) q))

-- k put to the front of n zeros
pub put_zeros : {p : List ℕ} (k : List ℕ) (n : ℕ) → length k ≤ n → p ≡ put_list (replicate n 0) k → p ≡ k ++ replicate (n - length k) 0
put_zeros k n h e = rw (← drop-zeros (length k) n) (rw (length-replicate, le-leb (length k) n h) at e)
