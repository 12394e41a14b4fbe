-- HMAC (RFC 2104, section 2), over a hash H: 'H(K XOR opad, H(K XOR ipad, text))'.
-- Assumes nothing.
use Rattle.std.specs.Prelude.{List, ◌++◌, map, ℕ, ◌-◌, ltb, length, replicate}
use Rattle.std.specs.Int.Bits.{bit_xor}
use Rattle.seqs.specs.Pick.{pick}
use Rattle.prf.specs.Hash.{HashFunction}

-- 'Applications that use keys longer than B bytes will first hash the key using H'
unfoldable pub shortened : HashFunction → List ℕ → List ℕ
shortened H k = pick (ltb H.block (length k)) (H.hash k) k

-- 'append zeros to the end of K to create a B byte string'
unfoldable pub key_block : HashFunction → List ℕ → List ℕ
key_block H k = shortened H k ++ replicate (H.block - length (shortened H k)) 0

-- every byte of b XOR x
unfoldable pub mask : ℕ → List ℕ → List ℕ
mask x b = map (λ v. bit_xor v x) b

-- 'ipad = the byte 0x36 repeated B times'
unfoldable pub inner_key : HashFunction → List ℕ → List ℕ
inner_key H k = mask 0x36 (key_block H k)

-- 'opad = the byte 0x5C repeated B times'
unfoldable pub outer_key : HashFunction → List ℕ → List ℕ
outer_key H k = mask 0x5c (key_block H k)

unfoldable pub hmac : HashFunction → List ℕ → List ℕ → List ℕ
hmac H k text = H.hash (outer_key H k ++ H.hash (inner_key H k ++ text))
