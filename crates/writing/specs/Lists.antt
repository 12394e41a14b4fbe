-- 'an ordered list of extensions', as a caller lends it: the types, the length of each one's data, and all data one after the other.
-- Assumes nothing.
use Rattle.std.specs.Prelude.{Bool, false, not, ◌&&◌, ◌||◌, List, [], ◌∷◌, ◌++◌, ℕ, ◌+◌, eqb, length, take, drop}
use Rattle.hello.specs.Extensions.{Extension, shaped}

-- numbers added up
unfoldable pub total : List ℕ → ℕ
total [] = 0
total (n ∷ ns) = n + total ns

-- there is a length for each type, and the lengths add up to exactly the data
unfoldable pub fitting : List ℕ → List ℕ → List ℕ → Bool
fitting types lengths bytes = eqb (length types) (length lengths) && eqb (total lengths) (length bytes)

abbrev pub extension_of : ℕ → List ℕ → Extension
extension_of t d = record { kind = t; content = d }

-- the list: each type with the next bytes of the data, as many as its length says
unfoldable pub extensions_from : List ℕ → List ℕ → List ℕ → List Extension
extensions_from [] lengths bytes = []
extensions_from (t ∷ types) [] bytes = []
extensions_from (t ∷ types) (n ∷ lengths) bytes = extension_of t (take n bytes) ∷ extensions_from types lengths (drop n bytes)

-- the other way round: what to lend for a list
unfoldable pub types_of : List Extension → List ℕ
types_of [] = []
types_of (e ∷ es) = e.kind ∷ types_of es

unfoldable pub lengths_of : List Extension → List ℕ
lengths_of [] = []
lengths_of (e ∷ es) = length e.content ∷ lengths_of es

unfoldable pub data_of : List Extension → List ℕ
data_of [] = []
data_of (e ∷ es) = e.content ++ data_of es

-- 'an RI or EMS of the wrong shape'
unfoldable pub misshapen : List Extension → Bool
misshapen [] = false
misshapen (e ∷ es) = not (shaped e.kind e.content) || misshapen es
