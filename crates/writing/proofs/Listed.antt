-- A list of extensions written one after the other: how long it is, and one extension more.
-- Assumes nothing.
use mathlib.Core.Path.{◌≡◌}
use mathlib.Core.List.{List, [], ◌∷◌, ◌++◌, append_assoc}
use Prim.Native.Nat.{ℕ, ◌+◌, ◌*◌, ◌/◌, ◌%◌, ◌≤◌, ◌<◌}
use native.Mathlib.Omega.{arith}
use lib.ListN.{length, take, drop, length-append, length-drop}
use lib.Seq.{length-take-le, drop-drop}
use borrow.Rule.Slice.PartMut.{put_mid}
use Rattle.hello.specs.Extensions.{Extension}
use Rattle.hello.specs.Written.{two_bytes, written_list}
use Rattle.writing.specs.Lists.{total, extensions_from}
use Rattle.writing.specs.Messages.{three_bytes, vector16}
use Rattle.octets.specs.Placed.{placed}
use Rattle.octets.proofs.Placing.{placed_then}

-- the header of a message of less than 65,536 bytes
pub three_small : (n : ℕ) → n < 65536 → three_bytes n ≡ 0 ∷ two_bytes n
three_small n h =
    let a : n / 65536 ≡ 0 = omega arith in
    let b : n % 65536 ≡ n = omega arith in
    rw (a, b)

-- four bytes for each extension, and the data
pub written_long : (ts ns d : List ℕ) → length ts ≡ length ns → total ns ≡ length d
    → length (written_list (extensions_from ts ns d)) ≡ 4 * length ts + length d
unfolding written_list extensions_from total
written_long [] [] d h k = omega arith
written_long [] (n ∷ ns) d h k = absurd (omega arith)
written_long (t ∷ ts) [] d h k = absurd (omega arith)
written_long (t ∷ ts) (n ∷ ns) d h k =
    let l : length (take n d) ≡ n = length-take-le n d (omega arith) in
    let r = written_long ts ns (drop n d) (omega arith) (rw length-drop (omega arith)) in
    omega (arith, length-append (take n d) (written_list (extensions_from ts ns (drop n d))), r, length-drop n d)

pub written_more : (t : ℕ) (d : List ℕ) (es : List Extension) → length (written_list (record { kind = t; content = d } ∷ es)) ≡ 4 + length d + length (written_list es)
unfolding written_list
written_more t d es = omega (arith, length-append d (written_list es))

-- an extension put to its place, and the rest behind it
pub placed_extension : (d : List ℕ) {d₁ : List ℕ} (at to k : ℕ) (content : List ℕ) (es : List Extension)
    → at + 4 + length content ≤ length d → to ≡ at + 4 + length content → d₁ ≡ placed d at (two_bytes k ++ vector16 content)
    → placed d₁ to (written_list es) ≡ placed d at (written_list (record { kind = k; content = content } ∷ es))
unfolding written_list
placed_extension d at to k content es h e p = rw p (placed_then d at (two_bytes k ++ vector16 content) (omega arith) to (written_list es) (omega arith))

-- bytes copied to a part of their length
pub placed_mid : (d : List ℕ) (at k : ℕ) (s p : List ℕ) → k ≡ length s → p ≡ s → put_mid at k d p ≡ placed d at s
unfolding placed
placed_mid d at k s p n e = rw (n, e) (simp (append_assoc, drop-drop))
