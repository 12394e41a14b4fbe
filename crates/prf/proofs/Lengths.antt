-- How long the results are and that they are bytes, over a lawful hash.
-- Assumes nothing.
use mathlib.Core.Path.{◌≡◌}
use mathlib.Core.Bool.{Bool}
use mathlib.Core.List.{List, ◌++◌}
use Prim.Native.Nat.{ℕ, zero, suc, ◌+◌, ◌-◌, ◌*◌, ◌/◌, ◌≤◌}
use native.Mathlib.Nat.{mul-suc, mul_comm, div-add-mod', mod-lt}
use native.Mathlib.Omega.{arith}
use lib.ListN.{length, length-append}
use lib.Seq.{length-take-le}
use Rattle.seqs.specs.Bytes.{Bytes}
use Rattle.seqs.proofs.Bytes.{bytes_none, bytes_append, bytes_take}
use Rattle.prf.specs.Hash.{HashFunction, Lawful}
use Rattle.prf.specs.Hmac.{hmac}
use Rattle.prf.specs.Prf.{expansion, parts, prf}
use Rattle.prf.specs.Secrets.{extended_master_secret, master_secret, verify_data}

module _ {H : HashFunction} (L : Lawful H) where
  pub length-hmac : (k m : List ℕ) → length (hmac H k m) ≡ H.width
  unfolding hmac
  length-hmac k m = L.long _

  pub bytes_hmac : (k m : List ℕ) → Bytes (hmac H k m)
  unfolding hmac
  bytes_hmac k m = L.bytes _

  pub length-expansion : (k s : List ℕ) (n : ℕ) → length (expansion H k s n) ≡ H.width * n
  unfolding expansion
  length-expansion k s zero = omega arith
  length-expansion k s (suc n) = rw (length-append, length-expansion k s n, length-hmac, mul-suc)

  bytes_expansion : (k s : List ℕ) (n : ℕ) → Bytes (expansion H k s n)
  unfolding expansion
  bytes_expansion k s zero = bytes_none
  bytes_expansion k s (suc n) = bytes_append (expansion H k s n) _ (bytes_expansion k s n) (bytes_hmac k _)

  -- as many parts as n bytes ask have n bytes
  pub enough : (n : ℕ) → n ≤ H.width * parts H n
  enough n =
      let x = n + H.width - 1 in
      omega (arith, L.some, div-add-mod' x H.width, mod-lt x L.some, mul_comm H.width (x / H.width))

  pub length-prf : (k l s : List ℕ) (n : ℕ) → length (prf H k l s n) ≡ n
  unfolding prf
  length-prf k l s n =
      length-take-le n (expansion H k (l ++ s) (parts H n)) (omega (arith, enough n, length-expansion k (l ++ s) (parts H n)))

  pub bytes_prf : (k l s : List ℕ) (n : ℕ) → Bytes (prf H k l s n)
  unfolding prf
  bytes_prf k l s n = bytes_take n _ (bytes_expansion k _ (parts H n))

  pub length_extended : (p s : List ℕ) → length (extended_master_secret H p s) ≡ 48
  unfolding extended_master_secret
  length_extended p s = length-prf p _ s 48

  pub bytes_extended : (p s : List ℕ) → Bytes (extended_master_secret H p s)
  unfolding extended_master_secret
  bytes_extended p s = bytes_prf p _ s 48

  pub length_master : (p s : List ℕ) → length (master_secret H p s) ≡ 48
  unfolding master_secret
  length_master p s = length-prf p _ s 48

  pub bytes_master : (p s : List ℕ) → Bytes (master_secret H p s)
  unfolding master_secret
  bytes_master p s = bytes_prf p _ s 48

  pub length_verify : (k : List ℕ) (server : Bool) (h : List ℕ) → length (verify_data H k server h) ≡ 12
  unfolding verify_data
  length_verify k server h = length-prf k _ h 12

  pub bytes_verify : (k : List ℕ) (server : Bool) (h : List ℕ) → Bytes (verify_data H k server h)
  unfolding verify_data
  bytes_verify k server h = bytes_prf k _ h 12
