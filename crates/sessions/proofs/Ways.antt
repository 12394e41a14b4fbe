-- Which session a store strikes out: document 01's five cases, each by what decides it.
-- Assumes nothing.
use mathlib.Core.Path.{◌≡◌, refl}
use mathlib.Core.Bool.{true, false}
use mathlib.Core.List.{List}
use Prim.Native.Nat.{ℕ, zero, suc, ◌+◌, ◌≤◌, ◌<◌}
use native.Mathlib.Numerals.{add-one}
use native.Mathlib.Omega.{arith}
use lib.ListN.{length}
use borrow.Author.Tests.{eq-eqb, ne_eqb, lt-ltb, le-ltb, le-leb, lt-leb}
use Rattle.sessions.specs.Book.{Book, strike, there, is_of, is_named, holds, sought, fuller, fullest, struck}

module _ (a : ℕ) (i : List ℕ) (b : Book) where
  pub struck_named : there (sought a i b) ≡ true → struck a i b ≡ strike (is_named a i) b
  unfolding struck
  struck_named h = rw h

  module _ (none : there (sought a i b) ≡ false) where
    pub struck_eighth : holds a b ≡ 8 → struck a i b ≡ strike (is_of a) b
    unfolding struck
    struck_eighth e = rw (none, eq-eqb (holds a b) 8 e)

    module _ (few : holds a b ≡ 8 → ⊥) where
      pub struck_room : length b < 32 → struck a i b ≡ b
      unfolding struck
      struck_room l = rw (none, ne_eqb (holds a b) 8 few, lt-ltb (length b) 32 l)

      module _ (full : 32 ≤ length b) where
        pub struck_own : 4 ≤ holds a b → struck a i b ≡ strike (is_of a) b
        unfolding struck
        struck_own h = rw (none, ne_eqb (holds a b) 8 few, le-ltb (length b) 32 full, le-leb 4 (holds a b) h)

        pub struck_other : holds a b < 4 → struck a i b ≡ strike (is_of (fullest b)) b
        unfolding struck
        struck_other h = rw (none, ne_eqb (holds a b) 8 few, le-ltb (length b) 32 full, lt-leb 4 (holds a b) h)

pub fuller_second : (b : Book) (a c : ℕ) → holds a b < holds c b → c ≡ fuller b a c
unfolding fuller
fuller_second b a c h = rw (lt-ltb (holds a b) (holds c b) h)

pub fuller_first : (b : Book) (a c : ℕ) → holds c b ≤ holds a b → a ≡ fuller b a c
unfolding fuller
fuller_first b a c h = rw (le-ltb (holds a b) (holds c b) h)

-- the fullest of the first axles
unfoldable pub fullest_of : Book → ℕ → ℕ
fullest_of b zero = 1
fullest_of b (suc zero) = 1
fullest_of b (suc (suc n)) = fuller b (fullest_of b (suc n)) (suc (suc n))

pub fullest_six : (b : Book) → fullest_of b 6 ≡ fullest b
unfolding fullest_of fullest
fullest_six b = refl

pub fullest_next : (b : Book) (n : ℕ) → 1 ≤ n → fullest_of b (n + 1) ≡ fuller b (fullest_of b n) (suc n)
unfolding fullest_of
fullest_next b zero h = absurd (omega arith)
fullest_next b (suc n) h = rw add-one refl
