-- The key's block, over a lawful hash: its length, and all of its bytes under a mask.
-- Assumes nothing.
use mathlib.Core.Path.{◌≡◌, refl}
use mathlib.Core.Bool.{Bool, true, false}
use mathlib.Core.List.{List, ◌++◌, map, append-nil}
use Prim.Native.Nat.{ℕ, ◌≤◌}
use native.Mathlib.Omega.{arith}
use borrow.Author.Tests.{ltb-false}
use lib.Bits.{bit_xor}
use lib.Dec.{ltb}
use lib.ListN.{length, take, drop, length-append, length-map, length-replicate, drop_of_length-le}
use lib.Seq.{take_all}
use Rattle.seqs.specs.Pick.{pick}
use Rattle.prf.specs.Hash.{HashFunction, Lawful}
use Rattle.prf.specs.Hmac.{shortened, key_block, mask, inner_key, outer_key}

-- a block whose bytes before index i are masked, where that is all of them
pub masked_all : {r : List ℕ} (x : ℕ) (b : List ℕ) (i : ℕ) → length b ≤ i → r ≡ map (λ v. bit_xor v x) (take i b) ++ drop i b → r ≡ mask x b
unfolding mask
masked_all x b i h e = rw (take_all i b h, drop_of_length-le b {i = i} h, append-nil) at e

module _ {H : HashFunction} (L : Lawful H) where
  -- a key is at most a block, once it is shortened
  picked : (k : List ℕ) (t : Bool) → ltb H.block (length k) ≡ t → length (pick t (H.hash k) k) ≤ H.block
  picked k true e = omega (arith, L.long k, L.fits)
  picked k false e = ltb-false H.block (length k) e

  length-shortened : (k : List ℕ) → length (shortened H k) ≤ H.block
  unfolding shortened
  length-shortened k = picked k (ltb H.block (length k)) refl

  length-block : (x : ℕ) (k : List ℕ) → length (mask x (key_block H k)) ≡ H.block
  unfolding mask key_block
  length-block x k = simp (length-map, length-append, length-replicate) (omega (arith, length-shortened k))

  pub length-inner : (k : List ℕ) → length (inner_key H k) ≡ H.block
  unfolding inner_key
  length-inner k = length-block 0x36 k

  pub length-outer : (k : List ℕ) → length (outer_key H k) ≡ H.block
  unfolding outer_key
  length-outer k = length-block 0x5c k
