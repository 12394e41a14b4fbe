-- What an allowance lets in, by what waits in the hash that has the smaller room.
-- Assumes nothing.
use mathlib.Core.Path.{◌≡◌, sym, ◌∙◌, ap}
use mathlib.Core.List.{List}
use Prim.Native.Nat.{ℕ, ◌+◌, ◌-◌, ◌*◌, ◌%◌, ◌≤◌, min}
use native.Mathlib.Omega.{arith}
use lib.Dec.{leb}
use lib.ListN.{length}
use borrow.Author.Tests.{leb-true, leb-false}
use Rattle.seqs.specs.Cases.{by_test}
use Rattle.sha256.specs.Running as sha256-specs
use Rattle.sha256.specs.Laws as sha256-laws
use Rattle.sha384.specs.Running as sha384-specs
use Rattle.sha384.specs.Laws as sha384-laws
use Rattle.transcript.specs.Choice.{Choice, algorithm_of}
use Rattle.transcript.specs.Choice.Algorithm.{sha_256, sha_384}
use Rattle.transcript.specs.Choice.Choice.{unchosen, chosen}
use Rattle.transcript.specs.Allowance.{smaller, room_of, room, let_in}
use Rattle.transcript.specs.Carries.{Carries}
use Rattle.transcript.proofs.Carrying.{distinct}
use Rattle.transcript.proofs.Smaller.{room_256_is_smaller}
use Rattle.transcript.specs.declared.Transcript.{Transcript}

-- the room of a hash in which w bytes wait
abbrev room_by : ℕ → ℕ → ℕ → ℕ
room_by size k w = size * (k + 1) - 1 - w

abbrev pub LetsIn : Transcript → ℕ → ℕ → ℕ → Type 0
LetsIn t k left r = (r ≤ left) × ((c : Choice) (m : List ℕ) → Carries t c m → r ≡ let_in c k m left)

min_smaller : (i j : ℕ) → min i j ≡ smaller i j
min_smaller i j = by_test (leb i j) (λ e. rw e (omega (arith, leb-true i j e))) (λ e. rw e (omega (arith, leb-false i j e)))

module _ (t : Transcript) (k left r w : ℕ) where
  lets_in : (n : ℕ) → r ≡ min left n → ((c : Choice) (m : List ℕ) → Carries t c m → n ≡ room c k m) → LetsIn t k left r
  unfolding let_in
  lets_in n e f = (omega arith, λ c m h. e ∙ min_smaller left n ∙ ap (smaller left) (f c m h))

  pub lets_384 : ((c : Choice) (m : List ℕ) → Carries t c m → algorithm_of c ≡ sha_384) → w ≡ sha384-specs.taken t.sha384 % 128
      → r ≡ min left (room_by 128 k w) → LetsIn t k left r
  unfolding room room_of
  lets_384 e f g = lets_in (room_by 128 k w) g go
    where
      go : (c : Choice) (m : List ℕ) → Carries t c m → room_by 128 k w ≡ room c k m
      go unchosen m h = distinct (e unchosen m h)
      go (chosen sha_256) m h = distinct (e (chosen sha_256) m h)
      go (chosen sha_384) m h = rw (f, sha384-laws.taken_length h.sha384)

  pub lets_256 : ((c : Choice) (m : List ℕ) → Carries t c m → algorithm_of c ≡ sha_256) → w ≡ sha256-specs.taken t.sha256 % 64
      → r ≡ min left (room_by 64 k w) → LetsIn t k left r
  unfolding room room_of
  lets_256 e f g = lets_in (room_by 64 k w) g go
    where
      of : (m : List ℕ) → sha256-specs.taken t.sha256 ≡ length m → room_by 64 k w ≡ room_of sha_256 k m
      of m n = rw (f, n)

      go : (c : Choice) (m : List ℕ) → Carries t c m → room_by 64 k w ≡ room c k m
      go unchosen m h = of m (sha256-laws.taken_length h.sha256) ∙ sym (room_256_is_smaller k m)
      go (chosen sha_256) m h = of m (sha256-laws.taken_length h.sha256)
      go (chosen sha_384) m h = distinct (sym (e (chosen sha_384) m h))
