-- Laws: what the parts above may use of an allowance and of bytes that enter, and do not open it.
-- Assumes nothing.
use Rattle.std.specs.Prelude.{◌≡◌, refl, List, ◌++◌, Bool, true, false, ◌⊎◌, ℕ, ◌+◌, ◌*◌, ◌≤◌, ◌<◌, leb, length}
use Rattle.std.proofs.Common.{sym, subst, inl, inr, arith, leb-true, leb-false, le-leb}
use Rattle.std.proofs.lemmas.Bool.{lt-leb}
use Rattle.seqs.specs.Pick.{pick}
use Rattle.seqs.specs.Cases.{by_test}
use Rattle.seqs.specs.Taken.{completed}
use Rattle.seqs.proofs.Taking.{completed_append}
use Rattle.transcript.specs.Choice.{Algorithm, Choice, block_of, carried}
use Rattle.transcript.specs.Choice.Algorithm.{sha_256, sha_384}
use Rattle.transcript.specs.Choice.Choice.{unchosen, chosen}
use Rattle.transcript.specs.Allowance.{smaller, room_of, room, let_in, blocks}
use Rattle.transcript.specs.Carries.{choice_in}
use Rattle.transcript.specs.Promise.{Enters, EntersTo}
use Rattle.transcript.specs.declared.Transcript.{Transcript}

-- SHA-256's room is the smaller one
pub room_of_lem : (k : ℕ) (m : List ℕ) → room_of sha_256 k m ≤ room_of sha_384 k m
unfolding room_of
room_of_lem k m = omega arith

-- an allowance of k blocks has room for as many bytes as they have
some_of : (a : Algorithm) (k : ℕ) (m : List ℕ) → 64 * k ≤ room_of a k m
unfolding room_of
some_of sha_256 k m = omega arith
some_of sha_384 k m = omega arith

-- in the smaller of two rooms too
some_of_both : (a b : Algorithm) (k : ℕ) (m : List ℕ) → 64 * k ≤ smaller (room_of a k m) (room_of b k m)
some_of_both a b k m = by_test (leb (room_of a k m) (room_of b k m)) (λ e. rw e (some_of a k m)) (λ e. rw e (some_of b k m))

room_some : (c : Choice) (k : ℕ) (m : List ℕ) → 64 * k ≤ room c k m
unfolding room
room_some unchosen k m = some_of_both _ _ k m
room_some (chosen a) k m = some_of a k m

-- lists of one length leave the same room
room_length : (c : Choice) (k : ℕ) (m n : List ℕ) → length m ≡ length n → room c k m ≡ room c k n
unfolding room_of room
room_length unchosen k m n e = rw e
room_length (chosen a) k m n e = rw e

module _ (c : Choice) (k : ℕ) (m : List ℕ) (left : ℕ) where
  -- all that is left, where there is room for it, and else what there is room for
  pub let_in-all : left ≤ room c k m → let_in c k m left ≡ left
  unfolding let_in
  let_in-all h = rw (le-leb left (room c k m) h)

  pub let_in-part : room c k m < left → let_in c k m left ≡ room c k m
  unfolding let_in
  let_in-part h = rw (lt-leb left (room c k m) h)

  by_room : {P : Type 0} → (left ≤ room c k m → let_in c k m left ≡ left → P) → (room c k m < left → let_in c k m left ≡ room c k m → P) → P
  by_room all part =
      by_test (leb left (room c k m))
      (λ e. let h = leb-true left (room c k m) e in all h (let_in-all h))
      (λ e. let h = leb-false left (room c k m) e in part h (let_in-part h))

  -- no more than is left
  pub let_in-within : let_in c k m left ≤ left
  let_in-within = by_room (λ h e. omega arith) (λ h e. omega arith)

  -- nor than there is room for
  pub let_in-room : let_in c k m left ≤ room c k m
  let_in-room = by_room (λ h e. omega (arith, h, e)) (λ h e. omega (arith, e))

  -- all that is left, or as many bytes as k blocks have: a message that is fed comes to its end
  pub let_in-blocks : (let_in c k m left ≡ left) ⊎ (64 * k ≤ let_in c k m left)
  let_in-blocks = by_room (λ h e. inl e) (λ h e. inr (omega (arith, room_some c k m)))

-- lists of one length are let in alike
pub let_in-length : (c : Choice) (k : ℕ) (m n : List ℕ) (left : ℕ) → length m ≡ length n → let_in c k m left ≡ let_in c k n left
unfolding let_in
let_in-length c k m n left e = rw (room_length c k m n e)

-- blocks that are completed one after the other
pub blocks_append : (c : Choice) (a : Algorithm) (m b d : List ℕ) → blocks c a m b + blocks c a (m ++ b) d ≡ blocks c a m (b ++ d)
unfolding blocks
blocks_append c a m b d = go (carried c a)
  where
    some : (x : Algorithm) → completed (block_of x) m b + completed (block_of x) (m ++ b) d ≡ completed (block_of x) m (b ++ d)
    some sha_256 = completed_append 64 (omega arith) m b d
    some sha_384 = completed_append 128 (omega arith) m b d

    go : (t : Bool) → pick t (completed (block_of a) m b) 0 + pick t (completed (block_of a) (m ++ b) d) 0 ≡ pick t (completed (block_of a) m (b ++ d)) 0
    go true = some a
    go false = refl

-- bytes behind which is carried what was
pub enters_on : {t r : Transcript} {b : List ℕ} {told : Choice} {worked : Algorithm → ℕ} → EntersTo t b told r worked → told ≡ choice_in t → Enters t b r worked
enters_on {t} {r} {b} {told} {worked} x e = subst (λ (h : Transcript). Enters t b h worked) (sym (x.stays e)) x.enters
