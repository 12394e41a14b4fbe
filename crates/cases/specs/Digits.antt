-- Text as bytes of ASCII. 'Numbers are decimal.'
-- Assumes nothing.
use Rattle.std.specs.Prelude.{List, [], ◌∷◌, ◌++◌, ℕ, zero, suc, ◌+◌, ◌/◌, ◌%◌, ltb}
use Prim.Native.String.{String}
use Prim.Native.Char.{code}
use Rattle.seqs.specs.Pick.{pick}

-- the characters of a text, each by its code
unfoldable pub ascii : String → List ℕ
ascii String.[] = []
ascii (String.◌∷◌ c s) = code c ∷ ascii s

-- the last k digits of n, without leading zeros; a 0 is one digit
unfoldable pub digits : ℕ → ℕ → List ℕ
digits zero n = []
digits (suc k) n = pick (ltb n 10) [] (digits k (n / 10)) ++ ((48 + n % 10) ∷ [])

-- a number below 100,000: all that are printed are bytes, places of a message and types of an extension
unfoldable pub decimal : ℕ → List ℕ
decimal n = digits 5 n
