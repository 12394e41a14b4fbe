-- The extension at a place, and that asking again and again hands out a list that was read.
-- Assumes nothing.
use mathlib.Core.Path.{◌≡◌, refl, sym, ◌∙◌, ap, ap₂}
use mathlib.Core.Bool.{true}
use mathlib.Core.List.{List, [], ◌∷◌}
use Prim.Native.Nat.{ℕ, zero, suc, ◌+◌, ◌-◌, ◌≤◌, ◌<◌}
use native.Mathlib.Omega.{arith}
use lib.Dec.{leb}
use lib.ListN.{length, drop, length-drop}
use lib.Seq.{take_all}
use borrow.Author.Tests.{le-leb, lt-leb, leb-true, leb-false}
use Rattle.std.specs.Prelude.{Ok}
use Rattle.seqs.specs.Cases.{by_test}
use Rattle.message.specs.Numbers.{pair_at}
use Rattle.hello.specs.Layout.{parsed, from}
use Rattle.hello.specs.Extensions.{Extension, extensions_of}
use Rattle.hello.specs.Cuts.{parsed_at, well_formed_at, list_at}
use Rattle.hello.specs.Entries.{entry_at}
use Rattle.hello.specs.Next.{no_next, next_of, next_at, HandsOut, ListHandedOut, HandedOnce}
use Rattle.hello.specs.declared.next.Next.{Next}
use Rattle.hello.specs.declared.walk.Entry.{Entry}
use Rattle.hello.proofs.Lists.{fuel, step, list_end}
use Rattle.hello.proofs.Entries.{entry_read}

module _ (m : List ℕ) (at : ℕ) where
  pub next_none : length m < at + 4 + pair_at m (at + 2) → next_at m at ≡ no_next
  unfolding next_at
  next_none h = rw (lt-leb (at + 4 + pair_at m (at + 2)) (length m) h)

  pub next_some : (n : ℕ) → n ≡ pair_at m (at + 2) → at + 4 + n ≤ length m → next_at m at ≡ next_of m at n
  unfolding next_at
  next_some n e h = rw (← e, le-leb (at + 4 + n) (length m) h)

  -- the extension that was read there, and the place of what follows it
  pub next_read : (e : Entry) → entry_at m at ≡ Ok e → (k : ℕ) → k ≡ (next_of m at (pair_at m (at + 2))).next
      → record { found = 1; kind = e.kind; «data» = e.«data»; next = k } ≡ next_at m at
  next_read e h k f = let w = entry_read m at e h in rw (← w.is, f) (sym (next_some _ refl w.within))

-- a list that is well formed, from a place on; k bounds what is left of the message
handed_from : (m : List ℕ) (k i : ℕ) → i ≤ length m → length m - i ≤ k → well_formed_at m i ≡ true → HandsOut m i (list_at m i)
handed_from m zero i h l w = rw (list_end m i (omega arith)) (next_none m i (omega arith))
handed_from m (suc k) i h l w =
    by_test (leb (length m) i)
    (λ p. rw (list_end m i (leb-true _ _ p)) (next_none m i (omega (arith, leb-true (length m) i p))))
    (λ p.
    let b : i < length m = leb-false _ _ p in
    let s = step m i _ _ b w refl refl in
    let n : next_at m i ≡ next_of m i (pair_at m (i + 2)) = next_some m i (pair_at m (i + 2)) refl s.within in
    rw (s.list, n)
    (refl, refl, record { within = s.within; is = refl }, handed_from m k (i + 4 + pair_at m (i + 2)) s.within (omega (arith, s.within)) s.whole))

-- bytes that are a list of extensions are well formed where they stand at the end of a message
module _ (m : List ℕ) (i : ℕ) (es : List Extension) (e : extensions_of (from m i) ≡ parsed es) where
  here : parsed_at m i ≡ parsed es
  unfolding parsed_at extensions_of
  here = fuel (length m) (length (drop i m)) (from m i) (rw length-drop (omega arith)) (omega arith) ∙ e

  formed : well_formed_at m i ≡ true
  unfolding well_formed_at
  formed = rw here

  list_is : list_at m i ≡ es
  unfolding list_at
  list_is = rw here

pub handed : ListHandedOut
handed m x b es l =
    let i = x.list.at in
    let n : length (drop i m) ≤ x.list.length = rw length-drop (omega (arith, l.ends)) in
    let e : extensions_of (from m i) ≡ parsed es = ap (λ (b : List ℕ). extensions_of (record { at = i; bytes = b })) (sym (take_all x.list.length (drop i m) n)) ∙ l.list in
    rw (← list_is m i es e) (handed_from m (length m) i (omega (arith, l.ends)) (omega arith) (formed m i es e))

pub handed_once : HandedOnce
handed_once m at [] [] h k = refl
handed_once m at [] (f ∷ fs) h k = absurd (omega (arith, k.0, ap (λ (n : Next). n.found) h))
handed_once m at (e ∷ es) [] h k = absurd (omega (arith, h.0, ap (λ (n : Next). n.found) k))
handed_once m at (e ∷ es) (f ∷ fs) h k =
    let x : e ≡ f = ap₂ (λ (t : ℕ) (d : List ℕ). record { kind = t; content = d }) (sym h.1 ∙ k.1) (sym h.2.is ∙ k.2.is) in
    ap₂ (λ (y : Extension) (ys : List Extension). y ∷ ys) x (handed_once m (next_at m at).next es fs h.3 k.3)
