-- Which lists are bytes.
-- Assumes nothing.
use mathlib.Core.List.{List, [], ◌∷◌, ◌++◌}
use Prim.Native.Nat.{ℕ, zero, suc, ◌<◌}
use native.Mathlib.Omega.{arith}
use lib.ListN.{take}
use Rattle.seqs.specs.Tab.{tab}
use Rattle.seqs.specs.Words.{ByteOrder, in_bytes, bytes_of}
use Rattle.seqs.specs.Bytes.{Bytes}

pub bytes_none : Bytes []
bytes_none i = omega arith

pub bytes_one : (x : ℕ) → x < 256 → Bytes (x ∷ [])
bytes_one x h zero = h
bytes_one x h (suc i) = omega arith

pub bytes_append : (a b : List ℕ) → Bytes a → Bytes b → Bytes (a ++ b)
bytes_append [] b p q i = q i
bytes_append (x ∷ xs) b p q zero = p 0
bytes_append (x ∷ xs) b p q (suc i) = bytes_append xs b (λ j. p (suc j)) q i

pub bytes_take : (n : ℕ) (l : List ℕ) → Bytes l → Bytes (take n l)
bytes_take zero l p i = omega arith
bytes_take (suc n) [] p i = omega arith
bytes_take (suc n) (x ∷ xs) p zero = p 0
bytes_take (suc n) (x ∷ xs) p (suc i) = bytes_take n xs (λ j. p (suc j)) i

pub bytes_tab : (n : ℕ) (f : ℕ → ℕ) → ((i : ℕ) → f i < 256) → Bytes (tab n f)
unfolding tab
bytes_tab zero f h = bytes_none
bytes_tab (suc n) f h = bytes_append (tab n f) (f n ∷ []) (bytes_tab n f h) (bytes_one (f n) (h n))

pub bytes_in_bytes : (o : ByteOrder) (w x : ℕ) → Bytes (in_bytes o w x)
unfolding in_bytes
bytes_in_bytes o w x = bytes_tab w _ (λ i. omega arith)

pub bytes_bytes_of : (o : ByteOrder) (w : ℕ) (ws : List ℕ) → Bytes (bytes_of o w ws)
unfolding bytes_of
bytes_bytes_of o w [] = bytes_none
bytes_bytes_of o w (x ∷ xs) = bytes_append (in_bytes o w x) (bytes_of o w xs) (bytes_in_bytes o w x) (bytes_bytes_of o w xs)
