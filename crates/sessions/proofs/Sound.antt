-- Every call keeps a book sound: its sessions are ones that a store can have given, of different names, at most 8 of an axle and
-- at most 32 in all.
-- Assumes nothing.
use mathlib.Core.Path.{◌≡◌, refl}
use mathlib.Core.Bool.{Bool, true, false, not, ◌&&◌, false≢true, true≢false}
use mathlib.Core.List.{List, [], ◌∷◌, ◌++◌}
use mathlib.Core.Logic.{⊎_elim}
use Prim.Native.Nat.{ℕ, ◌≤◌}
use native.Mathlib.Omega.{arith}
use lib.Dec.{eqb, leb}
use lib.ListN.{length, length-append}
use borrow.Author.Tests.{eqb-true, leb-true}
use Rattle.refusal.specs.First.{first_of}
use Rattle.seqs.specs.Cases.{and_left, and_right, or_left, or_right, which, by_test}
use Rattle.sessions.specs.Book.{Session, Book, many, strike, is_of, is_name, is_named, holds, fullest, struck, written, bad_axle, bad_name, bad_secret, store_number, withdraw_number, Call, store, look_up, withdraw, held, clear, after, empty}
use Rattle.sessions.specs.Keeps.{Formed, Each, Sound}
use Rattle.sessions.proofs.Books.{many_append, strike_length, strike_shorter, many_strike, within_many}
use Rattle.sessions.proofs.Names.{name_axle, name_identifier, axle_of, named_of}
use Rattle.sessions.proofs.Struck.{Struck, renewed, own, room, other, struck_is, fullest_six}

-- ---- the sessions of a book, each

pub each_strike : (P : Session → Type 0) (p : Session → Bool) (b : Book) → Each P b → Each P (strike p b)
unfolding strike
each_strike P p [] f = f
each_strike P p (s ∷ b) f = ⊎_elim (λ y. rw y f.1) (λ n. rw n (f.0, each_strike P p b f.1)) (which (p s))

pub each_last : (P : Session → Type 0) (b : Book) (s : Session) → Each P b → P s → Each P (b ++ (s ∷ []))
each_last P [] s f h = (h, tt)
each_last P (x ∷ b) s f h = (f.0, each_last P b s f.1 h)

-- ---- what a number of 0 says

not_off : (t : Bool) → not t ≡ false → t ≡ true
not_off true e = refl
not_off false e = absurd (true≢false e)

between : (n m k : ℕ) → not (leb n m && leb m k) ≡ false → (n ≤ m) × (m ≤ k)
between n m k e =
    let f = not_off (leb n m && leb m k) e in
    (leb-true n m (and_left (leb n m) (leb m k) f), leb-true m k (and_right (leb n m) (leb m k) f))

pub good_axle : (a : ℕ) → bad_axle a ≡ false → (1 ≤ a) × (a ≤ 6)
unfolding bad_axle
good_axle a e = between 1 a 6 e

pub axle_bad : (a : ℕ) → (1 ≤ a → a ≤ 6 → ⊥) → bad_axle a ≡ true
axle_bad a h = by_test (bad_axle a) (λ y. y) (λ n. let g = good_axle a n in absurd (h g.0 g.1))

pub good_name : (a : ℕ) (i : List ℕ) → bad_name a i ≡ false → (1 ≤ a) × (a ≤ 6) × (1 ≤ length i) × (length i ≤ 32)
unfolding bad_name
good_name a i e =
    let n = length i in
    let x = good_axle a (or_left (bad_axle a) (not (leb 1 n && leb n 32)) e) in
    let y = between 1 n 32 (or_right (bad_axle a) (not (leb 1 n && leb n 32)) e) in
    (x.0, x.1, y.0, y.1)

pub good_store : (s : Session) → eqb (store_number s) 0 ≡ true → Formed s
unfolding store_number first_of bad_secret
good_store s z =
    ⊎_elim
    (λ (h : bad_name s.axle s.identifier ≡ true). absurd (false≢true (rw h at z)))
    (λ (h : bad_name s.axle s.identifier ≡ false).
    ⊎_elim
    (λ (k : eqb (length s.secret) 48 ≡ true).
    let g = good_name s.axle s.identifier h in
    record { axle_from = g.0; axle_to = g.1; identifier_from = g.2; identifier_to = g.3; secret_is = eqb-true (length s.secret) 48 k })
    (λ (k : eqb (length s.secret) 48 ≡ false). absurd (false≢true (rw (h, k) at z)))
    (which (eqb (length s.secret) 48)))
    (which (bad_name s.axle s.identifier))

-- ---- what the strike of a store leaves

struck_many : (p : Session → Bool) (a : ℕ) (i : List ℕ) (b b' : Book) → Struck a i b b' → many p b' ≤ many p b
struck_many p a i b b' (renewed h) = many_strike (is_named a i) p b
struck_many p a i b b' (own z h) = many_strike (is_of a) p b
struck_many p a i b b' (room z h l) = omega arith
struck_many p a i b b' (other z h l) = many_strike (is_of (fullest b)) p b

struck_each : (P : Session → Type 0) (a : ℕ) (i : List ℕ) (b b' : Book) → Struck a i b b' → Each P b → Each P b'
struck_each P a i b b' (renewed h) f = each_strike P (is_named a i) b f
struck_each P a i b b' (own z h) f = each_strike P (is_of a) b f
struck_each P a i b b' (room z h l) f = f
struck_each P a i b b' (other z h l) f = each_strike P (is_of (fullest b)) b f

pub struck_gone : (a : ℕ) (i : List ℕ) (b b' : Book) → Sound b → Struck a i b b' → many (is_named a i) b' ≡ 0
struck_gone a i b b' g (renewed h) = omega (arith, within_many (is_named a i) (is_named a i) (λ s e. e) b h, g.distinct a i)
struck_gone a i b b' g (own z h) = omega (arith, many_strike (is_of a) (is_named a i) b)
struck_gone a i b b' g (room z h l) = z
struck_gone a i b b' g (other z h l) = omega (arith, many_strike (is_of (fullest b)) (is_named a i) b)

pub struck_seven : (a : ℕ) (i : List ℕ) (b b' : Book) → Sound b → Struck a i b b' → holds a b' ≤ 7
struck_seven a i b b' g (renewed h) = omega (arith, within_many (is_named a i) (is_of a) (named_of a i) b h, g.eight a)
struck_seven a i b b' g (own z h) =
    let one : 1 ≤ holds a b = omega arith in
    omega (arith, within_many (is_of a) (is_of a) (λ s e. e) b one, g.eight a)
struck_seven a i b b' g (room z h l) = omega (arith, g.eight a)
struck_seven a i b b' g (other z h l) = omega (arith, many_strike (is_of (fullest b)) (is_of a) b)

struck_room : (a : ℕ) (i : List ℕ) (b b' : Book) → Sound b → Struck a i b b' → length b' ≤ 31
struck_room a i b b' g (renewed h) = omega (arith, strike_length (is_named a i) b h, g.thirty_two)
struck_room a i b b' g (own z h) =
    let one : 1 ≤ holds a b = omega arith in
    omega (arith, strike_length (is_of a) b one, g.thirty_two)
struck_room a i b b' g (room z h l) = omega arith
struck_room a i b b' g (other z h l) =
    let one : 1 ≤ holds (fullest b) b = omega (arith, fullest_six b g.formed l) in
    omega (arith, strike_length (is_of (fullest b)) b one, g.thirty_two)

-- a store always finds room
pub struck_fits : (a : ℕ) (i : List ℕ) (b : Book) → Sound b → length (struck a i b) ≤ 31
struck_fits a i b g = struck_room a i b (struck a i b) g (struck_is a i b)

-- ---- the calls

module _ (s : Session) (b b' : Book) (f : Formed s) (g : Sound b) (k : Struck s.axle s.identifier b b') where
  last_distinct : (a : ℕ) (i : List ℕ) → many (is_named a i) (b' ++ (s ∷ [])) ≤ 1
  unfolding many is_named
  last_distinct a i =
      ⊎_elim
      (λ (y : is_name a i s.axle s.identifier ≡ true).
      let z : many (is_named a i) b' ≡ 0 = rw (← name_axle a i s.axle s.identifier y, ← name_identifier a i s.axle s.identifier y) (struck_gone s.axle s.identifier b b' g k) in
      rw (many_append (is_named a i) b' (s ∷ []), y) (omega arith))
      (λ (n : is_name a i s.axle s.identifier ≡ false).
      rw (many_append (is_named a i) b' (s ∷ []), n) (omega (arith, struck_many (is_named a i) s.axle s.identifier b b' k, g.distinct a i)))
      (which (is_name a i s.axle s.identifier))

  last_eight : (a : ℕ) → holds a (b' ++ (s ∷ [])) ≤ 8
  unfolding many
  last_eight a =
      ⊎_elim
      (λ (y : is_of a s ≡ true).
      let h : holds a b' ≤ 7 = rw (← axle_of a s y) (struck_seven s.axle s.identifier b b' g k) in
      rw (many_append (is_of a) b' (s ∷ []), y) (omega arith))
      (λ (n : is_of a s ≡ false).
      rw (many_append (is_of a) b' (s ∷ []), n) (omega (arith, struck_many (is_of a) s.axle s.identifier b b' k, g.eight a)))
      (which (is_of a s))

  last_sound : Sound (b' ++ (s ∷ []))
  last_sound =
      record {
        formed = each_last Formed b' s (struck_each Formed s.axle s.identifier b b' k g.formed) f;
        distinct = last_distinct;
        eight = last_eight;
        thirty_two = rw (length-append b' (s ∷ [])) (omega (arith, struck_room s.axle s.identifier b b' g k));
      }

pub sound_written : (s : Session) (b : Book) → Formed s → Sound b → Sound (written s b)
unfolding written
sound_written s b f g = last_sound s b (struck s.axle s.identifier b) f g (struck_is s.axle s.identifier b)

pub sound_strike : (p : Session → Bool) (b : Book) → Sound b → Sound (strike p b)
sound_strike p b g =
    record {
      formed = each_strike Formed p b g.formed;
      distinct = λ a i. omega (arith, many_strike p (is_named a i) b, g.distinct a i);
      eight = λ a. omega (arith, many_strike p (is_of a) b, g.eight a);
      thirty_two = omega (arith, strike_shorter p b, g.thirty_two);
    }

pub sound_empty : Sound empty
unfolding many
sound_empty = record { formed = tt; distinct = λ a i. omega arith; eight = λ a. omega arith; thirty_two = omega arith }

pub sound_after : (b : Book) (c : Call) → Sound b → Sound (after b c)
unfolding after
sound_after b (store s) g =
    ⊎_elim
    (λ (z : eqb (store_number s) 0 ≡ true). rw z (sound_written s b (good_store s z) g))
    (λ (z : eqb (store_number s) 0 ≡ false). rw z g)
    (which (eqb (store_number s) 0))
sound_after b (look_up a i out) g = g
sound_after b (withdraw a i) g =
    ⊎_elim
    (λ (z : eqb (withdraw_number a i) 0 ≡ true). rw z (sound_strike (is_named a i) b g))
    (λ (z : eqb (withdraw_number a i) 0 ≡ false). rw z g)
    (which (eqb (withdraw_number a i) 0))
sound_after b (held a) g = g
sound_after b clear g = sound_empty
