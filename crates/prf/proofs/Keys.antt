-- A key and its tag, over a hash: the key's block, short or long, the two hash values that it begins, and the hash of a hash.
-- Assumes nothing.
use mathlib.Core.Path.{◌≡◌, ◌∙◌, ap}
use mathlib.Core.List.{List, ◌++◌}
use Prim.Native.Nat.{ℕ, ◌≤◌, ◌<◌}
use borrow.Author.Tests.{lt-ltb, le-ltb}
use lib.ListN.{length, drop, replicate}
use Rattle.seqs.proofs.Zeros.{drop-zeros}
use Rattle.prf.specs.Hash.{HashFunction}
use Rattle.prf.specs.Hmac.{shortened, key_block, mask, inner_key, outer_key, hmac}
use Rattle.prf.specs.Keyed.{Keys}

module _ (H : HashFunction) (k : List ℕ) where
  -- n bytes put to the front of a block of zeros: the digest of a long key, or the key
  pub block_long : {d r : List ℕ} (n : ℕ) → n ≡ length d → H.block < length k → d ≡ H.hash k → r ≡ d → r ++ drop n (replicate H.block 0) ≡ key_block H k
  unfolding key_block shortened
  block_long n q h e p = rw (lt-ltb H.block (length k) h, p, q, drop-zeros, e)

  pub block_short : {r : List ℕ} → length k ≤ H.block → r ≡ k → r ++ drop (length k) (replicate H.block 0) ≡ key_block H k
  unfolding key_block shortened
  block_short h p = rw (le-ltb H.block (length k) h, p, drop-zeros)

  -- a block b of the key, masked to i and o, which the hash values s and t have taken
  pub keys_taken : {S : Type 0} {Taken : S → List ℕ → Type 0} {s t : S} {b i o : List ℕ} → b ≡ key_block H k → i ≡ mask 0x36 b → o ≡ mask 0x5c b
      → Taken s i → Taken t o → Keys H Taken s t k
  unfolding inner_key outer_key
  keys_taken e p q f g = record { inner = rw (p, e) at f; outer = rw (q, e) at g }

  pub hmac_outer : {d r : List ℕ} (text : List ℕ) → d ≡ H.hash (inner_key H k ++ text) → r ≡ H.hash (outer_key H k ++ d) → r ≡ hmac H k text
  unfolding hmac
  hmac_outer text e p = p ∙ ap (λ (d : List ℕ). H.hash (outer_key H k ++ d)) e
