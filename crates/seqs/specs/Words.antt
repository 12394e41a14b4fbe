-- Numbers in bytes, words of bytes and bytes of words. The byte order and the word's width in bytes are parameters: FIPS 180-4,
-- section 3.1, has big-endian words of 4 or 8 bytes, RFC 1321, section 2, little-endian ones of 4.
-- Assumes nothing.
use Rattle.std.specs.Prelude.{List, [], ◌∷◌, ◌++◌, ℕ, ◌+◌, ◌-◌, ◌*◌, ◌/◌, ◌%◌, ◌^◌, length}
use Rattle.seqs.specs.Tab.{tab}
use Rattle.seqs.specs.Blocks.{block_at}

pub data ByteOrder : Type 0 where
  big : ByteOrder
  little : ByteOrder

-- the place of byte i among w
abbrev pub place : ByteOrder → ℕ → ℕ → ℕ
place big w i = w - 1 - i
place little w i = i

-- x in w bytes
unfoldable pub in_bytes : ByteOrder → ℕ → ℕ → List ℕ
in_bytes o w x = tab w (λ i. x / 256 ^ place o w i % 256)

-- the number in bytes
unfoldable pub of_bytes : ByteOrder → List ℕ → ℕ
of_bytes o [] = 0
of_bytes big (x ∷ xs) = x * 256 ^ length xs + of_bytes big xs
of_bytes little (x ∷ xs) = x + 256 * of_bytes little xs

-- the first n words of b, each of w bytes
abbrev pub words_of : ByteOrder → ℕ → ℕ → List ℕ → List ℕ
words_of o w n b = tab n (λ t. of_bytes o (block_at w b t))

-- the bytes of words, in their order
unfoldable pub bytes_of : ByteOrder → ℕ → List ℕ → List ℕ
bytes_of o w [] = []
bytes_of o w (x ∷ xs) = in_bytes o w x ++ bytes_of o w xs
