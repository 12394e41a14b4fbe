-- The numbers that the calls answer, by their tests; the number in a refusal; a flag read again.
-- Assumes nothing.
use mathlib.Core.Path.{◌≡◌}
use mathlib.Core.Bool.{true, false}
use mathlib.Core.List.{List}
use mathlib.Core.Option.{none, some}
use Prim.Native.Nat.{ℕ, ◌≤◌, ◌<◌}
use lib.ListN.{length}
use borrow.Author.Tests.{le-leb, eq-eqb, ne_eqb, le-ltb, lt-ltb}
use Rattle.refusal.specs.First.{first_of}
use Rattle.sessions.specs.Book.{Session, Book, sought, bad_axle, bad_name, bad_secret, too_short, store_number, look_up_number, withdraw_number, held_number}

-- ---- the tests

pub axle_good : (a : ℕ) → 1 ≤ a → a ≤ 6 → false ≡ bad_axle a
unfolding bad_axle
axle_good a l h = rw (le-leb 1 a l, le-leb a 6 h)

pub name_good : (a : ℕ) (i : List ℕ) → bad_axle a ≡ false → 1 ≤ length i → length i ≤ 32 → false ≡ bad_name a i
unfolding bad_name
name_good a i e l h = rw (e, le-leb 1 (length i) l, le-leb (length i) 32 h)

-- ---- the numbers

module _ (s : Session) where
  pub store_11 : bad_name s.axle s.identifier ≡ true → 11 ≡ store_number s
  unfolding store_number first_of
  store_11 e = rw e

  pub store_10 : bad_name s.axle s.identifier ≡ false → (length s.secret ≡ 48 → ⊥) → 10 ≡ store_number s
  unfolding store_number first_of bad_secret
  store_10 e n = rw (e, ne_eqb (length s.secret) 48 n)

  pub store_0 : bad_name s.axle s.identifier ≡ false → length s.secret ≡ 48 → 0 ≡ store_number s
  unfolding store_number first_of bad_secret
  store_0 e n = rw (e, eq-eqb (length s.secret) 48 n)

module _ (a : ℕ) (i : List ℕ) where
  pub withdraw_11 : bad_name a i ≡ true → 11 ≡ withdraw_number a i
  unfolding withdraw_number first_of
  withdraw_11 e = rw e

  pub withdraw_0 : bad_name a i ≡ false → 0 ≡ withdraw_number a i
  unfolding withdraw_number first_of
  withdraw_0 e = rw e

  pub look_11 : (out : List ℕ) (b : Book) → bad_name a i ≡ true → 11 ≡ look_up_number a i out b
  unfolding look_up_number first_of
  look_11 out b e = rw e

  pub look_none : (out : List ℕ) (b : Book) → bad_name a i ≡ false → sought a i b ≡ none → 0 ≡ look_up_number a i out b
  unfolding look_up_number first_of too_short
  look_none out b e f = rw (e, f)

  pub look_10 : (out : List ℕ) (b : Book) (s : Session) → bad_name a i ≡ false → sought a i b ≡ some s → length out < length s.secret → 10 ≡ look_up_number a i out b
  unfolding look_up_number first_of too_short
  look_10 out b s e f h = rw (e, f, lt-ltb (length out) (length s.secret) h)

  pub look_0 : (out : List ℕ) (b : Book) (s : Session) → bad_name a i ≡ false → sought a i b ≡ some s → length s.secret ≤ length out → 0 ≡ look_up_number a i out b
  unfolding look_up_number first_of too_short
  look_0 out b s e f h = rw (e, f, le-ltb (length out) (length s.secret) h)

pub held_11 : (a : ℕ) → bad_axle a ≡ true → 11 ≡ held_number a
unfolding held_number first_of
held_11 a e = rw e

pub held_0 : (a : ℕ) → bad_axle a ≡ false → 0 ≡ held_number a
unfolding held_number first_of
held_0 a e = rw e
