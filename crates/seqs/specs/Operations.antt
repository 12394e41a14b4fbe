-- The operations of FIPS 180-4, section 3.2, on words of w bits, and two functions that are the same in SHA-1 and all of SHA-2.
-- Assumes nothing.
use Rattle.std.specs.Prelude.{ℕ, ◌+◌, ◌-◌, ◌*◌, ◌/◌, ◌%◌, ◌^◌}
use Rattle.std.specs.Int.Bits.{bit_and, bit_or, bit_xor}

-- 'Addition modulo 2^w'
unfoldable pub add : ℕ → ℕ → ℕ → ℕ
add w x y = (x + y) % 2 ^ w

-- 'The right shift operation SHR n(x)'
abbrev pub shr : ℕ → ℕ → ℕ
shr n x = x / 2 ^ n

-- 'The rotate right (circular right shift) operation ROTR n(x) = (x >> n) ∨ (x << w - n)'
unfoldable pub rotr : ℕ → ℕ → ℕ → ℕ
rotr w n x = bit_or (x / 2 ^ n) (x * 2 ^ (w - n) % 2 ^ w)

-- 'Bitwise complement'
abbrev pub complement : ℕ → ℕ → ℕ
complement w x = 2 ^ w - 1 - x

-- 'Ch(x, y, z) = (x ∧ y) ⊕ (¬x ∧ z)'
unfoldable pub ch : ℕ → ℕ → ℕ → ℕ → ℕ
ch w x y z = bit_xor (bit_and x y) (bit_and (complement w x) z)

-- 'Maj(x, y, z) = (x ∧ y) ⊕ (x ∧ z) ⊕ (y ∧ z)'
unfoldable pub maj : ℕ → ℕ → ℕ → ℕ
maj x y z = bit_xor (bit_xor (bit_and x y) (bit_and x z)) (bit_and y z)
