-- What the structs of the crate stand for, over a hash H.
-- Assumes nothing.
use Rattle.std.specs.Prelude.{◌≡◌, List, ◌++◌, ℕ, suc, ◌*◌, drop}
use Rattle.prf.specs.Hash.{HashFunction}
use Rattle.prf.specs.Hmac.{inner_key, outer_key}
use Rattle.prf.specs.Prf.{A, expansion}
use Rattle.prf.specs.declared.keyed.Keyed.{Keyed}

-- i and o are hash values that have taken their block of the key k, and nothing else; Taken is the hash's own relation for that
pub record Keys (H : HashFunction) {S : Type 0} (Taken : S → List ℕ → Type 0) (i o : S) (k : List ℕ) : Type 0 where
  pub inner : Taken i (inner_key H k)
  pub outer : Taken o (outer_key H k)

-- keyed has taken the key k, by the hash's own relation Taken
abbrev pub KeyedBy : (H : HashFunction) {S : Type 0} → (S → List ℕ → Type 0) → Keyed H.block H.width S → List ℕ → Type 0
KeyedBy H Taken keyed k = Keys H Taken keyed.inner keyed.outer k

-- a is A(i + 1), and the first i parts of the output stand at the front of what was lent, the rest as it was
pub record ChainedTo (H : HashFunction) (k seed : List ℕ) (i : ℕ) (a entry exit : List ℕ) : Type 0 where
  pub last : a ≡ A H k seed (suc i)
  pub out : exit ≡ expansion H k seed i ++ drop (H.width * i) entry
