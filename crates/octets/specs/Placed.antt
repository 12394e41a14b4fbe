-- A lent buffer with bytes written from a place of it on: the rest is as it was.
-- Assumes nothing.
use Rattle.std.specs.Prelude.{List, ◌++◌, ℕ, ◌+◌, length, take, drop}

-- the buffer d with the bytes s from place at on
unfoldable pub placed : List ℕ → ℕ → List ℕ → List ℕ
placed d at s = take at d ++ s ++ drop (at + length s) d
