-- The extension block at a place of a message, and what is said of the extensions in it.
-- Assumes nothing.
use mathlib.Core.Path.{◌≡◌, refl, sym, ◌∙◌}
use mathlib.Core.Bool.{Bool, true, false, not}
use mathlib.Core.List.{List, []}
use Prim.Native.Nat.{ℕ, zero, suc, ◌+◌, ◌-◌, ◌≤◌, ◌<◌}
use native.Mathlib.Omega.{arith}
use lib.Dec.{leb, eqb}
use lib.ListN.{length, take, drop, length-drop, drop_of_length-le}
use lib.Seq.{drop-drop}
use borrow.Author.Tests.{eq-eqb, ne_eqb, eqb-false, leb-true, leb-false}
use Rattle.seqs.specs.Pick.{pick}
use Rattle.seqs.specs.Cases.{by_test}
use Rattle.message.specs.Numbers.{pair_at}
use Rattle.hello.specs.Layout.{Parse, malformed, parsed, from, big}
use Rattle.hello.specs.Extensions.{Extension, extensions_of}
use Rattle.hello.specs.Fields.{Hello, is_malformed, listed, closing}
use Rattle.hello.specs.Places.{size_of}
use Rattle.hello.specs.Cuts.{parsed_at, well_formed_at, list_in, list_at}
use Rattle.hello.proofs.Vectors.{field_yes, field_cut}
use Rattle.hello.proofs.Lists.{fuel, big_at, step, list_end, size_of_lem}

-- a list that is well formed takes all the bytes to the end of the message
module _ (m : List ℕ) where
  size_from : (k i : ℕ) → i ≤ length m → length m - i ≤ k → well_formed_at m i ≡ true → size_of (list_at m i) ≡ length m - i
  unfolding size_of
  size_from zero i h l w = rw (list_end m i (omega arith)) (omega arith)
  size_from (suc k) i h l w =
      by_test (leb (length m) i)
      (λ p. rw (list_end m i (leb-true _ _ p)) (omega (arith, leb-true (length m) i p)))
      (λ p.
      let s = step m i _ _ (leb-false _ _ p) w refl refl in
      rw (s.list, size_of_lem m (i + 4) (pair_at m (i + 2)) s.within)
      (omega (arith, s.within, size_from k (i + 4 + pair_at m (i + 2)) s.within (omega (arith, leb-false (length m) i p)) s.whole)))

  pub list_size : (i : ℕ) → i ≤ length m → well_formed_at m i ≡ true → size_of (list_at m i) ≡ length m - i
  list_size i h w = size_from (length m - i) i h (omega arith) w

-- the block at place at
module _ (then : Bool → List Extension → Parse Hello) (m : List ℕ) (at : ℕ) where
  pub closing_none : length m ≤ at → closing (from m at) then ≡ then false []
  unfolding closing
  closing_none h = rw (drop_of_length-le m {i = at} h)

  some : at < length m → eqb (length (drop at m)) 0 ≡ false
  some h = rw length-drop (ne_eqb (length m - at) 0 (λ z. omega arith))

  pub closing_short : at < length m → length m - at < 2 → closing (from m at) then ≡ malformed (length m)
  unfolding closing
  closing_short h s = rw (some h) (field_cut _ 2 m at (omega arith) s)

  module _ (n : ℕ) (e : n ≡ pair_at m at) (h : at + 2 ≤ length m) where
    covering : closing (from m at) then
        ≡ pick (eqb n (length m - (at + 2))) (listed (extensions_of (from m (at + 2))) (λ es. then true es)) (malformed at)
    unfolding closing
    covering =
        let g : big (take 2 (drop at m)) ≡ n = big_at m at h ∙ sym e in
        rw (some (omega arith)) (field_yes _ 2 (from m at) (rw length-drop (omega arith)) ∙ (rw (g, drop-drop, length-drop)))

    pub closing_other : (n ≡ length m - (at + 2) → ⊥) → closing (from m at) then ≡ malformed at
    closing_other d = covering ∙ (rw (ne_eqb n (length m - (at + 2)) d))

    module _ (x : n ≡ length m - (at + 2)) where
      inside : closing (from m at) then ≡ listed (parsed_at m (at + 2)) (λ es. then true es)
      unfolding extensions_of parsed_at
      inside =
          covering
          ∙ (rw (eq-eqb n (length m - (at + 2)) x, fuel (length (drop (at + 2) m)) (length m) (from m (at + 2)) (omega arith) (rw length-drop (omega arith))))

      pub closing_bad : (p : ℕ) → parsed_at m (at + 2) ≡ malformed p → closing (from m at) then ≡ malformed p
      closing_bad p w = inside ∙ (rw w)

      pub closing_yes : well_formed_at m (at + 2) ≡ true → closing (from m at) then ≡ then true (list_at m (at + 2))
      unfolding well_formed_at list_at
      closing_yes w = inside ∙ go (parsed_at m (at + 2)) w
        where
          go : (p : Parse (List Extension)) → not (is_malformed p) ≡ true → listed p (λ es. then true es) ≡ then true (list_in p)
          go (malformed p) q = absurd (eqb-false 1 0 refl (cc))
          go (parsed es) q = refl
