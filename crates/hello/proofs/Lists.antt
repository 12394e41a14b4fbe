-- The list of extensions from a place of a message on: what a walk with a place in hand learns at each step. The definition takes
-- lists apart, with as much fuel as there are bytes; that more fuel changes nothing is said here once.
-- Assumes nothing.
use mathlib.Core.Path.{◌≡◌, refl, sym, ◌∙◌, ap}
use mathlib.Core.Bool.{Bool, true, false, not}
use mathlib.Core.List.{List, [], ◌∷◌}
use Prim.Native.Nat.{ℕ, zero, suc, ◌+◌, ◌-◌, ◌≤◌, ◌<◌}
use native.Mathlib.Nat.{add-zero}
use native.Mathlib.Omega.{arith}
use lib.Dec.{leb, eqb}
use lib.ListN.{length, take, drop, length-drop}
use lib.Seq.{drop-drop, length-take-le}
use borrow.Author.Tests.{leb-true, leb-false, eq-eqb, ne_eqb, eqb-false}
use Rattle.seqs.specs.Pick.{pick}
use Rattle.message.specs.Numbers.{pair_at}
use Rattle.seqs.specs.Cases.{not_both}
use Rattle.hello.specs.Layout.{Parse, malformed, parsed, Left, from, past, big, field, counted}
use Rattle.hello.specs.Extensions.{Extension, shaped, extension, more, list_of}
use Rattle.hello.specs.Fields.{is_malformed}
use Rattle.hello.specs.Cuts.{parsed_at, well_formed_at, list_in, list_at}
use Rattle.hello.proofs.Vectors.{big_two, pair_drop, field_yes, field_cut, counted_short, counted_yes, counted_no}

-- two bytes at a place, as a field of two holds them
pub big_at : (m : List ℕ) (i : ℕ) → i + 2 ≤ length m → big (take 2 (drop i m)) ≡ pair_at m i
big_at m i h = big_two (drop i m) (rw length-drop (omega arith)) ∙ pair_drop m i 0 ∙ ap (pair_at m) (add-zero i)

module _ (then : Extension → Left → Parse (List Extension)) (m : List ℕ) (i : ℕ) where
  pub extension_short : i ≤ length m → length m - i < 4 → extension (from m i) then ≡ malformed (length m)
  unfolding extension
  extension_short k h = go (leb 2 (length m - i)) refl
    where
      go : (b : Bool) → leb 2 (length m - i) ≡ b → extension (from m i) then ≡ malformed (length m)
      go false p = field_cut _ 2 m i k (leb-false _ _ p)
      go true p =
          let q : i + 2 ≤ length m = omega (arith, leb-true 2 (length m - i) p) in
          field_yes _ 2 (from m i) (rw length-drop (leb-true _ _ p))
          ∙ (rw drop-drop (counted_short _ 2 m (i + 2) q (omega arith)))

  module _ (t n : ℕ) (e : t ≡ pair_at m i) (f : n ≡ pair_at m (i + 2)) (h : i + 4 ≤ length m) where
    pub extension_long : length m < i + 4 + n → extension (from m i) then ≡ malformed (i + 2)
    unfolding extension
    extension_long l =
        field_yes _ 2 (from m i) (rw length-drop (omega arith))
        ∙ (rw drop-drop (counted_no _ 2 m (i + 2) n (f ∙ sym (big_at m (i + 2) (omega arith))) (omega arith) (omega arith)))

    module _ (l : i + 4 + n ≤ length m) where
      read : extension (from m i) then
          ≡ pick (shaped t (take n (drop (i + 4) m))) (then (record { kind = t; content = take n (drop (i + 4) m) }) (from m (i + 4 + n))) (malformed (i + 4))
      unfolding extension
      read =
          let g : t ≡ big (take 2 (drop i m)) = e ∙ sym (big_at m i (omega arith)) in
          let s : i + 2 + 2 ≡ i + 4 = omega arith in
          field_yes _ 2 (from m i) (rw length-drop (omega arith))
          ∙ (rw (drop-drop, ← g) (counted_yes _ 2 m (i + 2) n (f ∙ sym (big_at m (i + 2) (omega arith))) (omega arith) (omega arith) ∙ (rw s)))

      pub extension_bad : shaped t (take n (drop (i + 4) m)) ≡ false → extension (from m i) then ≡ malformed (i + 4)
      extension_bad s = read ∙ (rw s)

      pub extension_yes : shaped t (take n (drop (i + 4) m)) ≡ true
          → extension (from m i) then ≡ then (record { kind = t; content = take n (drop (i + 4) m) }) (from m (i + 4 + n))
      extension_yes s = read ∙ (rw s)

-- Two ways to go on that agree on what can be left.
field_cong : {A : Type 0} (f g : List ℕ → Left → Parse A) (n : ℕ) (l : Left)
    → ((d : List ℕ) → f d (past n l) ≡ g d (past n l)) → field n l f ≡ field n l g
unfolding field
field_cong f g n l h = rw (h (take n l.bytes))

counted_cong : {A : Type 0} (f g : List ℕ → Left → Parse A) (w : ℕ) (l : Left)
    → ((d : List ℕ) (r : Left) → length r.bytes ≤ length l.bytes - w → f d r ≡ g d r) → counted w l f ≡ counted w l g
unfolding counted
counted_cong f g w l h =
    field_cong _ _ w l
    (λ d. rw (h (take (big d) (drop w l.bytes)) (past (big d) (past w l)) (simp length-drop (omega arith))))

extension_cong : (f g : Extension → Left → Parse (List Extension)) (l : Left)
    → ((e : Extension) (r : Left) → length r.bytes ≤ length l.bytes - 2 → f e r ≡ g e r) → extension l f ≡ extension l g
unfolding extension
extension_cong f g l h = field_cong _ _ 2 l (λ t. counted_cong _ _ 2 (past 2 l) (λ d r k. let q : length r.bytes ≤ length l.bytes - 2 = omega (arith, length-drop 2 l.bytes) in rw (h (record { kind = big t; content = d }) r q)))

-- tests that agree
pick_else : {A : Type 0} (b : Bool) (x y z : A) → (b ≡ false → y ≡ z) → pick b x y ≡ pick b x z
pick_else true x y z h = refl
pick_else false x y z h = h refl

pub fuel : (k k' : ℕ) (l : Left) → length l.bytes ≤ k → length l.bytes ≤ k' → list_of k l ≡ list_of k' l
unfolding list_of
fuel zero zero l h h' = refl
fuel zero (suc k') l h h' = rw (eq-eqb (length l.bytes) 0 (omega arith))
fuel (suc k) zero l h h' = rw (eq-eqb (length l.bytes) 0 (omega arith))
fuel (suc k) (suc k') l h h' =
    pick_else (eqb (length l.bytes) 0) _ _ _
    (λ p. extension_cong _ _ l (λ e r q. ap (more e) (fuel k k' r (omega (arith, eqb-false (length l.bytes) 0 p)) (omega (arith, eqb-false (length l.bytes) 0 p)))))

module _ (m : List ℕ) where
  pub parsed_end : (i : ℕ) → length m ≤ i → parsed_at m i ≡ parsed []
  unfolding parsed_at list_of
  parsed_end i h =
      fuel (length m) (suc (length m)) (from m i) (rw length-drop (omega arith)) (rw length-drop (omega arith))
      ∙ (rw (eq-eqb (length (drop i m)) 0 (rw length-drop (omega arith))))

  -- the definition at a place where bytes are left
  parsed_some : (i : ℕ) → i < length m → parsed_at m i ≡ extension (from m i) (λ e r. more e (list_of (length m) r))
  unfolding parsed_at list_of
  parsed_some i h =
      let l : length (drop i m) ≡ length m - i = length-drop i m in
      fuel (length m) (suc (length m)) (from m i) (omega arith) (omega arith)
      ∙ (rw (ne_eqb (length (drop i m)) 0 (λ z. omega arith)))

  pub parsed_short : (i : ℕ) → i < length m → length m - i < 4 → parsed_at m i ≡ malformed (length m)
  parsed_short i h s = parsed_some i h ∙ extension_short _ m i (omega arith) s

  module _ (i t n : ℕ) (e : t ≡ pair_at m i) (f : n ≡ pair_at m (i + 2)) (h : i + 4 ≤ length m) where
    pub parsed_long : length m < i + 4 + n → parsed_at m i ≡ malformed (i + 2)
    parsed_long l = parsed_some i (omega arith) ∙ extension_long _ m i t n e f h l

    pub parsed_bad : i + 4 + n ≤ length m → shaped t (take n (drop (i + 4) m)) ≡ false → parsed_at m i ≡ malformed (i + 4)
    parsed_bad l s = parsed_some i (omega arith) ∙ extension_bad _ m i t n e f h l s

    pub parsed_more : i + 4 + n ≤ length m → shaped t (take n (drop (i + 4) m)) ≡ true
        → parsed_at m i ≡ more (record { kind = t; content = take n (drop (i + 4) m) }) (parsed_at m (i + 4 + n))
    unfolding parsed_at
    parsed_more l s = parsed_some i (omega arith) ∙ extension_yes _ m i t n e f h l s

    -- a fault behind an extension that is whole is the fault
    pub broken_later : i + 4 + n ≤ length m → shaped t (take n (drop (i + 4) m)) ≡ true → (p : ℕ) → parsed_at m (i + 4 + n) ≡ malformed p → parsed_at m i ≡ malformed p
    broken_later l s p q = parsed_more l s ∙ (rw q)

-- an extension in front
whole_more : (e : Extension) (p : Parse (List Extension)) → is_malformed (more e p) ≡ is_malformed p
whole_more e (malformed p) = refl
whole_more e (parsed es) = refl

list_more : (e : Extension) (p : Parse (List Extension)) → not (is_malformed p) ≡ true → list_in (more e p) ≡ e ∷ list_in p
list_more e (malformed p) h = absurd (eqb-false 0 1 refl (cc))
list_more e (parsed es) h = refl

-- a list that is not well formed has its place
pub broken_at : (m : List ℕ) (i : ℕ) → well_formed_at m i ≡ false → (p : ℕ) × (parsed_at m i ≡ malformed p)
unfolding well_formed_at
broken_at m i w = go (parsed_at m i) refl w
  where
    go : (p : Parse (List Extension)) → parsed_at m i ≡ p → not (is_malformed p) ≡ false → (q : ℕ) × (parsed_at m i ≡ malformed q)
    go (malformed q) e h = (q, e)
    go (parsed es) e h = absurd (eqb-false 0 1 refl (cc))

-- what a walk that tests each extension learns: `t` and `n` are the type and the length that it read at place i
module _ (m : List ℕ) (i : ℕ) where
  pub whole_end : length m ≤ i → well_formed_at m i ≡ true
  unfolding well_formed_at
  whole_end h = rw (parsed_end m i h)

  pub whole_short : i < length m → length m - i < 4 → well_formed_at m i ≡ false
  unfolding well_formed_at
  whole_short h s = rw (parsed_short m i h s)

  module _ (t n : ℕ) (e : t ≡ pair_at m i) (f : n ≡ pair_at m (i + 2)) (h : i + 4 ≤ length m) where
    pub whole_long : length m < i + 4 + n → well_formed_at m i ≡ false
    unfolding well_formed_at
    whole_long l = rw (parsed_long m i t n e f h l)

    pub whole_bad : i + 4 + n ≤ length m → shaped t (take n (drop (i + 4) m)) ≡ false → well_formed_at m i ≡ false
    unfolding well_formed_at
    whole_bad l s = rw (parsed_bad m i t n e f h l s)

    pub whole_next : i + 4 + n ≤ length m → shaped t (take n (drop (i + 4) m)) ≡ true → well_formed_at m i ≡ well_formed_at m (i + 4 + n)
    unfolding well_formed_at
    whole_next l s = rw (parsed_more m i t n e f h l s) (ap not (whole_more _ (parsed_at m (i + 4 + n))))

  pub list_end : length m ≤ i → list_at m i ≡ []
  unfolding list_at
  list_end h = rw (parsed_end m i h)

-- what a walk over a list that is well formed learns at place i
pub record Step (m : List ℕ) (i t n : ℕ) : Type 0 where
  pub within : i + 4 + n ≤ length m
  pub shape : shaped t (take n (drop (i + 4) m)) ≡ true
  pub whole : well_formed_at m (i + 4 + n) ≡ true
  pub list : list_at m i ≡ record { kind = t; content = take n (drop (i + 4) m) } ∷ list_at m (i + 4 + n)

pub step : (m : List ℕ) (i t n : ℕ) → i < length m → well_formed_at m i ≡ true → t ≡ pair_at m i → n ≡ pair_at m (i + 2) → Step m i t n
unfolding list_at well_formed_at
step m i t n h w e f = go₁ (leb 4 (length m - i)) (leb (i + 4 + n) (length m)) (shaped t (take n (drop (i + 4) m))) refl refl refl
  where
    go₁ : (a b c : Bool) → leb 4 (length m - i) ≡ a → leb (i + 4 + n) (length m) ≡ b → shaped t (take n (drop (i + 4) m)) ≡ c → Step m i t n
    go₁ false b c p q r = not_both w (whole_short m i h (leb-false _ _ p))
    go₁ true false c p q r = not_both w (whole_long m i t n e f (omega (arith, leb-true 4 (length m - i) p)) (leb-false _ _ q))
    go₁ true true false p q r = not_both w (whole_bad m i t n e f (omega (arith, leb-true 4 (length m - i) p)) (leb-true _ _ q) r)
    go₁ true true true p q r =
        let l : i + 4 + n ≤ length m = leb-true _ _ q in
        let x : well_formed_at m (i + 4 + n) ≡ true = sym (whole_next m i t n e f (omega arith) l r) ∙ w in
        record { within = l; shape = r; whole = x; list = ap list_in (parsed_more m i t n e f (omega arith) l r) ∙ list_more _ (parsed_at m (i + 4 + n)) x }

-- the bytes that an extension has
pub size_of_lem : (m : List ℕ) (i n : ℕ) → i + n ≤ length m → length (take n (drop i m)) ≡ n
size_of_lem m i n h = length-take-le n (drop i m) (rw length-drop (omega arith))
