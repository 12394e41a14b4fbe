-- Document 01, 'Program loglist': 'reads a case .., at most 32,768 bytes, else bad: contents first (a count byte, a 2-byte
-- length for each), then the bodies, ending exactly.'
-- Assumes nothing.
use Rattle.std.specs.Prelude.{Bool, ◌&&◌, List, [], ◌∷◌, ℕ, zero, suc, ◌+◌, ◌*◌, leb, eqb, length, take, drop}
use Rattle.message.specs.Numbers.{byte_at, pair_at}

-- 'a count byte'
unfoldable pub count_of : List ℕ → ℕ
count_of case = byte_at case 0

-- n lengths of two bytes each, big-endian
unfoldable pub lengths_in : ℕ → List ℕ → List ℕ
lengths_in zero s = []
lengths_in (suc n) s = pair_at s 0 ∷ lengths_in n (drop 2 s)

-- 'a 2-byte length for each'
unfoldable pub lengths_of : List ℕ → List ℕ
lengths_of case = lengths_in (count_of case) (drop 1 case)

-- how many bytes the contents have
unfoldable pub contents_size : List ℕ → ℕ
contents_size case = 1 + 2 * count_of case

-- as many bytes from the front as each length says, one after the other
unfoldable pub parts_of : List ℕ → List ℕ → List (List ℕ)
parts_of [] s = []
parts_of (n ∷ ns) s = take n s ∷ parts_of ns (drop n s)

-- 'then the bodies'
unfoldable pub bodies_of : List ℕ → List (List ℕ)
bodies_of case = parts_of (lengths_of case) (drop (contents_size case) case)

unfoldable pub total : List ℕ → ℕ
total [] = 0
total (n ∷ ns) = n + total ns

-- not bad: short enough, the contents there, and the bodies 'ending exactly'
unfoldable pub good_case : List ℕ → Bool
good_case case =
    leb (length case) 32768
    && leb (contents_size case) (length case)
    && eqb (contents_size case + total (lengths_of case)) (length case)
