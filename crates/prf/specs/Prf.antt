-- The pseudorandom function of TLS 1.2 (RFC 5246, section 5), over a hash H.
-- Assumes nothing.
use Rattle.std.specs.Prelude.{List, [], ◌++◌, ℕ, zero, suc, ◌+◌, ◌-◌, ◌/◌, take}
use Rattle.prf.specs.Hash.{HashFunction}
use Rattle.prf.specs.Hmac.{hmac}

-- 'A(0) = seed, A(i) = HMAC_hash(secret, A(i-1))'
unfoldable pub A : HashFunction → List ℕ → List ℕ → ℕ → List ℕ
A H secret seed zero = seed
A H secret seed (suc i) = hmac H secret (A H secret seed i)

-- the first n parts of 'P_hash(secret, seed) = HMAC_hash(secret, A(1) + seed) + HMAC_hash(secret, A(2) + seed) + ...'
unfoldable pub expansion : HashFunction → List ℕ → List ℕ → ℕ → List ℕ
expansion H secret seed zero = []
expansion H secret seed (suc n) = expansion H secret seed n ++ hmac H secret (A H secret seed (suc n) ++ seed)

-- 'P_hash can be iterated as many times as necessary to produce the required quantity of data'
abbrev pub parts : HashFunction → ℕ → ℕ
parts H n = (n + H.width - 1) / H.width

-- the first n bytes of 'PRF(secret, label, seed) = P_<hash>(secret, label + seed)'
unfoldable pub prf : HashFunction → List ℕ → List ℕ → List ℕ → ℕ → List ℕ
prf H secret label seed n = take n (expansion H secret (label ++ seed) (parts H n))
