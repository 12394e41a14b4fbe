-- A name through a list of calls: what the book has under it, beside what the calls say of its latest store. The stores of the
-- axle since then are at least as many as its sessions that stand behind it in the book. A session goes for another name's sake
-- only as the oldest of its axle, where that holds 4 or more and stores itself, or 6 or more: so four stores since, or more.
-- Assumes nothing.
use mathlib.Core.Path.{◌≡◌, refl, sym, ◌∙◌, ap}
use mathlib.Core.Bool.{Bool, true, false}
use mathlib.Core.List.{List, [], ◌∷◌, ◌++◌}
use mathlib.Core.Logic.{◌⊎◌, inl, inr, ⊎_elim}
use mathlib.Core.Option.{Option, none, some}
use Prim.Native.Nat.{ℕ, suc, ◌+◌, ◌≤◌, ◌<◌}
use native.Mathlib.Nat.{add-zero}
use native.Mathlib.Omega.{arith}
use lib.Dec.{eqb}
use borrow.Author.Tests.{eqb-true, eqb-false}
use Rattle.seqs.specs.Pick.{pick}
use Rattle.seqs.specs.Cases.{which}
use Rattle.sessions.specs.Book.{Session, Book, many, oldest, strike, is_of, is_name, is_named, holds, sought, fullest, struck, written, store_number, withdraw_number, Call, store, look_up, withdraw, held, clear, answer, number_of, after, empty}
use Rattle.sessions.specs.History.{noted, further}
use Rattle.sessions.specs.Keeps.{Sound}
use Rattle.sessions.proofs.Books.{zero_or, last_oldest, last_many, none_there, append-none, behind, behind_some, behind_none, many_strike, strike_many, within_strike, apart_oldest, apart_many, apart_behind}
use Rattle.sessions.proofs.Names.{name_axle, name_identifier, of_axle, of_other, named_of, named_other, named_apart}
use Rattle.sessions.proofs.Sound.{struck_gone}
use Rattle.sessions.proofs.Struck.{Struck, renewed, own, room, other, struck_is, fullest_six}

-- l is the latest store's session, n the stores since, of which k may stand behind it in the book
pub record Track (a : ℕ) (i : List ℕ) (b : Book) (l : Option Session) (k n : ℕ) : Type 0 where
  pub finds : (sought a i b ≡ none) ⊎ (sought a i b ≡ l)
  pub younger : 1 ≤ many (is_named a i) b → behind (is_named a i) (is_of a) b ≤ k
  pub stays : n < 4 → sought a i b ≡ l

pub track_none : (a : ℕ) (i : List ℕ) (k n : ℕ) → Track a i empty none k n
unfolding oldest many
track_none a i k n = record { finds = inl refl; younger = λ h. absurd (omega arith); stays = λ h. refl }

module _ (a : ℕ) (i : List ℕ) (b : Book) (l : Option Session) where
  -- another's session goes
  track_apart : (q : Session → Bool) (k n n' : ℕ) → n ≤ n' → ((s : Session) → is_named a i s ≡ true → q s ≡ false) → Track a i b l k n
      → Track a i (strike q b) l k n'
  track_apart q k n n' w d t =
      let e = apart_oldest (is_named a i) q d b in
      record {
        finds = rw e t.finds;
        younger = λ h.
            let h' : 1 ≤ many (is_named a i) b = rw (apart_many (is_named a i) q d b) at h in
            omega (arith, apart_behind (is_named a i) q d (is_of a) b, t.younger h');
        stays = λ m. e ∙ t.stays (omega arith);
      }

  -- the axle's oldest goes, which may be the one
  track_own : (k n n' : ℕ) → Sound b → n ≤ n' → (holds a b ≤ suc k → 4 ≤ n') → Track a i b l k n → Track a i (strike (is_of a) b) l k n'
  track_own k n n' g h c t =
      ⊎_elim
      (λ (z : many (is_named a i) b ≡ 0).
      let z' : many (is_named a i) (strike (is_of a) b) ≡ 0 = omega (arith, many_strike (is_of a) (is_named a i) b) in
      record {
        finds = inl (none_there (is_named a i) (strike (is_of a) b) z');
        younger = λ m. absurd (omega arith);
        stays = λ m. none_there (is_named a i) (strike (is_of a) b) z' ∙ sym (none_there (is_named a i) b z) ∙ t.stays (omega arith);
      })
      (λ (o : 1 ≤ many (is_named a i) b).
      ⊎_elim
      (λ w.
      record {
        finds = rw w.0 t.finds;
        younger = λ m. rw w.1 (t.younger o);
        stays = λ m. w.0 ∙ t.stays (omega arith);
      })
      (λ w.
      let z' : many (is_named a i) (strike (is_of a) b) ≡ 0 = rw w.1 (omega (arith, strike_many (is_named a i) b, g.distinct a i)) in
      let four : 4 ≤ n' = c (omega (arith, w.0, t.younger o)) in
      record {
        finds = inl (none_there (is_named a i) (strike (is_of a) b) z');
        younger = λ m. absurd (omega arith);
        stays = λ m. absurd (omega arith);
      })
      (within_strike (is_named a i) (is_of a) (named_of a i) b o))
      (zero_or (many (is_named a i) b))

  -- another's session is written last
  track_last : (s : Session) (k n : ℕ) → is_named a i s ≡ false → Track a i b l k n → Track a i (b ++ (s ∷ [])) l (k + pick (is_of a s) 1 0) n
  track_last s k n d t =
      let e = last_oldest (is_named a i) b s d in
      record {
        finds = rw e t.finds;
        younger = λ h.
            let h' : 1 ≤ many (is_named a i) b = omega (arith, rw d at (last_many (is_named a i) b s)) in
            omega (arith, behind_some (is_named a i) (is_of a) b s h', t.younger h');
        stays = rw e t.stays;
      }

  -- a store of the axle under another identifier, before the new session is written
  track_same_axle : (i' : List ℕ) (b' : Book) (n : ℕ) → Sound b → is_name a i a i' ≡ false → Struck a i' b b' → Track a i b l n n → Track a i b' l n (n + 1)
  track_same_axle i' b' n g d (renewed h) t = track_apart (is_named a i') n n (n + 1) (omega arith) (named_apart a i a i' d) t
  track_same_axle i' b' n g d (own z h) t = track_own n n (n + 1) g (omega arith) (λ m. omega arith) t
  track_same_axle i' b' n g d (room z h m) t = record { finds = t.finds; younger = t.younger; stays = λ w. t.stays (omega arith) }
  track_same_axle i' b' n g d (other z h m) t =
      let six = fullest_six b g.formed m in
      track_apart (is_of (fullest b)) n n (n + 1) (omega arith) (named_other a i (fullest b) (λ e. omega (arith, ap (λ (x : ℕ). holds x b) e))) t

  -- and one of another axle
  track_other_axle : (a' : ℕ) (i' : List ℕ) (b' : Book) (n : ℕ) → Sound b → (a ≡ a' → ⊥) → is_name a i a' i' ≡ false → Struck a' i' b b'
      → Track a i b l n n → Track a i b' l n n
  track_other_axle a' i' b' n g ne d (renewed h) t = track_apart (is_named a' i') n n n (omega arith) (named_apart a i a' i' d) t
  track_other_axle a' i' b' n g ne d (own z h) t = track_apart (is_of a') n n n (omega arith) (named_other a i a' ne) t
  track_other_axle a' i' b' n g ne d (room z h m) t = t
  track_other_axle a' i' b' n g ne d (other z h m) t =
      let six = fullest_six b g.formed m in
      ⊎_elim
      (λ (y : eqb (fullest b) a ≡ true).
      let e = eqb-true (fullest b) a y in
      let o : 6 ≤ holds a b = rw e at six in
      rw e (track_own n n n g (omega arith) (λ w. omega arith) t))
      (λ (v : eqb (fullest b) a ≡ false). track_apart (is_of (fullest b)) n n n (omega arith) (named_other a i (fullest b) (λ e. eqb-false (fullest b) a v (sym e))) t)
      (which (eqb (fullest b) a))

-- a store answered 0: the new session is written last
module _ (a : ℕ) (i : List ℕ) (b : Book) (l : Option Session) (n : ℕ) (g : Sound b) (t : Track a i b l n n) (s : Session) where
  module _ (b' : Book) (v : Struck s.axle s.identifier b b') where
    track_new : is_name a i s.axle s.identifier ≡ true → Track a i (b' ++ (s ∷ [])) (some s) 0 0
    unfolding oldest is_named
    track_new y =
        let z : many (is_named a i) b' ≡ 0 = rw (← name_axle a i s.axle s.identifier y, ← name_identifier a i s.axle s.identifier y) (struck_gone s.axle s.identifier b b' g v) in
        let here : sought a i (b' ++ (s ∷ [])) ≡ some s = append-none (is_named a i) b' (s ∷ []) z ∙ (rw y) in
        record { finds = inr here; younger = λ h. rw (behind_none (is_named a i) (is_of a) b' s z) (omega arith); stays = λ h. here }

    track_same : is_name a i s.axle s.identifier ≡ false → s.axle ≡ a → Track a i (b' ++ (s ∷ [])) l (n + 1) (n + 1)
    unfolding is_named
    track_same d e =
        let v' : Struck a s.identifier b b' = rw e at v in
        let d' : is_name a i a s.identifier ≡ false = rw e at d in
        rw (of_axle a s e) at (track_last a i b' l s n (n + 1) d (track_same_axle a i b l s.identifier b' n g d' v' t))

    track_other : is_name a i s.axle s.identifier ≡ false → (s.axle ≡ a → ⊥) → Track a i (b' ++ (s ∷ [])) l n n
    unfolding is_named
    track_other d e =
        let r : Track a i (b' ++ (s ∷ [])) l (n + 0) n = rw (of_other a s e) at (track_last a i b' l s n n d (track_other_axle a i b l s.axle s.identifier b' n g (λ f. e (sym f)) d v t)) in
        rw (add-zero n) at r

  track_written : Track a i (written s b) (pick (is_name a i s.axle s.identifier) (some s) l)
      (pick (is_name a i s.axle s.identifier) 0 (pick (eqb s.axle a) (n + 1) n))
      (pick (is_name a i s.axle s.identifier) 0 (pick (eqb s.axle a) (n + 1) n))
  unfolding written
  track_written =
      let b' = struck s.axle s.identifier b in
      let v = struck_is s.axle s.identifier b in
      ⊎_elim
      (λ (y : is_name a i s.axle s.identifier ≡ true). rw y (track_new b' v y))
      (λ (d : is_name a i s.axle s.identifier ≡ false).
      ⊎_elim
      (λ (u : eqb s.axle a ≡ true). rw (d, u) (track_same b' v d (eqb-true s.axle a u)))
      (λ (u : eqb s.axle a ≡ false). rw (d, u) (track_other b' v d (eqb-false s.axle a u)))
      (which (eqb s.axle a)))
      (which (is_name a i s.axle s.identifier))

-- a withdrawal answered 0
track_withdrawn : (a : ℕ) (i : List ℕ) (b : Book) (l : Option Session) (n : ℕ) (a' : ℕ) (i' : List ℕ) → Sound b → Track a i b l n n
    → Track a i (strike (is_named a' i') b) (pick (is_name a i a' i') none l) n n
track_withdrawn a i b l n a' i' g t =
    ⊎_elim
    (λ (y : is_name a i a' i' ≡ true).
    let z : many (is_named a i) (strike (is_named a i) b) ≡ 0 = omega (arith, strike_many (is_named a i) b, g.distinct a i) in
    let e = none_there (is_named a i) (strike (is_named a i) b) z in
    rw (y, name_axle a i a' i' y, name_identifier a i a' i' y) (record { finds = inl e; younger = λ h. absurd (omega arith); stays = λ h. e }))
    (λ (d : is_name a i a' i' ≡ false). rw d (track_apart a i b l (is_named a' i') n n n (omega arith) (named_apart a i a' i' d) t))
    (which (is_name a i a' i'))

-- any call: what it was answered is the book's answer
pub track_call : (a : ℕ) (i : List ℕ) (b : Book) (l : Option Session) (n : ℕ) (c : Call) → Sound b → Track a i b l n n
    → Track a i (after b c) (noted a i c (number_of (answer b c)) l) (further a i c (number_of (answer b c)) n) (further a i c (number_of (answer b c)) n)
unfolding after answer noted further is_named is_of
track_call a i b l n (store s) g t =
    ⊎_elim
    (λ (z : eqb (store_number s) 0 ≡ true). rw z (track_written a i b l n g t s))
    (λ (z : eqb (store_number s) 0 ≡ false). rw z t)
    (which (eqb (store_number s) 0))
track_call a i b l n (look_up a' i' out) g t = t
track_call a i b l n (withdraw a' i') g t =
    ⊎_elim
    (λ (z : eqb (withdraw_number a' i') 0 ≡ true). rw z (track_withdrawn a i b l n a' i' g t))
    (λ (z : eqb (withdraw_number a' i') 0 ≡ false). rw z t)
    (which (eqb (withdraw_number a' i') 0))
track_call a i b l n (held a') g t = t
track_call a i b l n clear g t = track_none a i n n
