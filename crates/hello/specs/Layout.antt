-- How a message is laid out (RFC 5246, section 4): fields of a known length, and vectors, which state theirs. Each is taken
-- from the front of the bytes that are left. Bytes that do not fit the layout are malformed, and are found here alone; order 9 says at
-- which place: 'A field out of its bounds, a length that claims more than is left, or one that must fit exactly and doesn't, gives the
-- field's own place. A field cut off by the end of what holds it gives that end.'
-- Assumes nothing.
use Rattle.std.specs.Prelude.{List, [], ◌∷◌, ℕ, ◌+◌, ◌*◌, ◌^◌, leb, length, take, drop}
use Rattle.seqs.specs.Pick.{pick}

-- what bytes hold by their layout, or the place of the first fault
pub data Parse (A : Type 0) : Type 0 where
  malformed : ℕ → Parse A
  parsed : A → Parse A

-- bytes that are left, and the place of the message at which they begin
pub record Left : Type 0 where
  pub at : ℕ
  pub bytes : List ℕ

-- those of m from place i on
abbrev pub from : List ℕ → ℕ → Left
from m i = record { at = i; bytes = drop i m }

-- those behind the next n
abbrev pub past : ℕ → Left → Left
past n l = record { at = l.at + n; bytes = drop n l.bytes }

-- the place behind the last of them
abbrev pub end_of : Left → ℕ
end_of l = l.at + length l.bytes

-- a number, big-endian
unfoldable pub big : List ℕ → ℕ
big [] = 0
big (b ∷ bs) = b * 256 ^ length bs + big bs

module _ {A : Type 0} where
  -- a field of n bytes: `then` goes on with what it holds and what follows it
  unfoldable pub field : ℕ → Left → (List ℕ → Left → Parse A) → Parse A
  field n l then = pick (leb n (length l.bytes)) (then (take n l.bytes) (past n l)) (malformed (end_of l))

  -- a length, in w bytes, and so many bytes
  unfoldable pub counted : ℕ → Left → (List ℕ → Left → Parse A) → Parse A
  counted w l then =
      field w l (λ n r. pick (leb (big n) (length r.bytes)) (then (take (big n) r.bytes) (past (big n) r)) (malformed l.at))

  -- a vector: the same, with a length from low to high
  unfoldable pub vector : ℕ → ℕ → ℕ → Left → (List ℕ → Left → Parse A) → Parse A
  vector w low high l then =
      counted w l (λ d r. pick (leb low (length d)) (pick (leb (length d) high) (then d r) (malformed l.at)) (malformed l.at))
