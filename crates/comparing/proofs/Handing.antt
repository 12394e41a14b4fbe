-- The extensions that the reader hands out from a place of a message on: asked again and again it hands out just these.
-- Assumes nothing.
use mathlib.Core.Path.{◌≡◌, refl, sym, ◌∙◌, ap}
use mathlib.Core.List.{List, [], ◌∷◌, ◌++◌, append_assoc, append-nil}
use Prim.Native.Nat.{ℕ, zero, suc, ◌+◌, ◌≤◌}
use native.Mathlib.Omega.{arith}
use lib.Dec.{leb, eqb}
use lib.ListN.{length}
use borrow.Author.Tests.{leb-true, leb-false, eqb-true, eqb-false}
use Rattle.seqs.specs.Cases.{by_test}
use Rattle.message.specs.Numbers.{pair_at}
use Rattle.hello.specs.Extensions.{Extension}
use Rattle.hello.specs.Places.{behind, bytes_at}
use Rattle.hello.specs.Next.{no_next, next_of, next_at, HandsOut}
use Rattle.hello.specs.declared.next.Next.{Next}
use Rattle.hello.proofs.Handed.{next_none, next_some, handed_once}
use Rattle.comparing.specs.Steps.{handed_from, handed, IsLowest}
use Rattle.comparing.specs.Steps.{Least}

-- an extension at a place lies within the message, and so does what follows it
pub record Whole (m : List ℕ) (at : ℕ) : Type 0 where
  pub found : (next_at m at).found ≡ 1
  pub further : at + 4 ≤ (next_at m at).next
  pub before : (next_at m at).next ≤ length m
  pub within : behind (next_at m at).«data» ≤ length m

module _ (m : List ℕ) (at : ℕ) where
  n : ℕ
  n = pair_at m (at + 2)

  here : at + 4 + n ≤ length m → Whole m at
  unfolding n
  here h =
      let e : next_at m at ≡ next_of m at (pair_at m (at + 2)) = next_some m at (pair_at m (at + 2)) refl h in
      record { found = rw e; further = rw e (omega arith); before = rw e h; within = rw e h }

  pub whole : ((next_at m at).found ≡ 0 → ⊥) → Whole m at
  unfolding n
  whole h =
      by_test (leb (at + 4 + n) (length m))
      (λ t. here (leb-true _ _ t))
      (λ t. absurd (h (ap (λ (x : Next). x.found) (next_none m at (leb-false _ _ t)))))

  none_left : (next_at m at).found ≡ 0 → next_at m at ≡ no_next
  unfolding n
  none_left h =
      by_test (leb (at + 4 + n) (length m))
      (λ t. absurd (omega (arith, h, (here (leb-true _ _ t)).found)))
      (λ t. next_none m at (leb-false _ _ t))

hands_from : (k : ℕ) (m : List ℕ) (at : ℕ) → length m ≤ at + k → HandsOut m at (handed_from k m at)
unfolding handed_from
hands_from zero m at h = next_none m at (omega arith)
hands_from (suc k) m at h =
    by_test (eqb (next_at m at).found 0)
    (λ t. rw t (none_left m at (eqb-true _ 0 t)))
    (λ t.
    let w = whole m at (eqb-false _ 0 t) in
    rw t (w.found, refl, record { within = w.within; is = refl }, hands_from k m (next_at m at).next (omega (arith, w.further))))

pub hands : (m : List ℕ) (at : ℕ) → HandsOut m at (handed m at)
unfolding handed
hands m at = hands_from (length m) m at (omega arith)

pub handed_is : (m : List ℕ) (at : ℕ) (es : List Extension) → HandsOut m at es → handed m at ≡ es
handed_is m at es h = handed_once m at (handed m at) es (hands m at) h

-- while a loop asks: the lowest of those that came, and those that are still to come
pub record Asking (m : List ℕ) (list low : ℕ) (best : Least) (at : ℕ) : Type 0 where
  pub came : List Extension
  pub rest : List Extension
  pub all : came ++ rest ≡ handed m list
  pub hands : HandsOut m at rest
  pub lowest : IsLowest m came low best

pub asking_none : (m : List ℕ) (list low : ℕ) (best : Least) → IsLowest m [] low best → Asking m list low best list
asking_none m list low best l = record { came = []; rest = handed m list; all = refl; hands = hands m list; lowest = l }

abbrev pub told : List ℕ → Next → Extension
told m x = record { kind = x.kind; content = bytes_at m x.«data» }

module _ (m : List ℕ) (list low : ℕ) (best : Least) (at : ℕ) (a : Asking m list low best at) where
  pub asking_more : (next : Least) → ((next_at m at).found ≡ 0 → ⊥) → IsLowest m (a.came ++ (told m (next_at m at) ∷ [])) low next
      → Asking m list low next (next_at m at).next
  asking_more next h l = go a.rest a.all a.hands
    where
      go : (rest : List Extension) → a.came ++ rest ≡ handed m list → HandsOut m at rest → Asking m list low next (next_at m at).next
      go [] e o = absurd (h (ap (λ (x : Next). x.found) o))
      go (f ∷ fs) e o =
          let g : told m (next_at m at) ≡ f = λ j. record { kind = o.1 j; content = o.2.is j } in
          record {
            came = a.came ++ (told m (next_at m at) ∷ []);
            rest = fs;
            all = append_assoc a.came (told m (next_at m at) ∷ []) fs ∙ ap (λ (x : Extension). a.came ++ (x ∷ fs)) g ∙ e;
            hands = o.3;
            lowest = l;
          }

  pub asking_end : (next_at m at).found ≡ 0 → IsLowest m (handed m list) low best
  asking_end h = go a.rest a.all a.hands
    where
      go : (rest : List Extension) → a.came ++ rest ≡ handed m list → HandsOut m at rest → IsLowest m (handed m list) low best
      go [] e o = rw (sym e, append-nil) a.lowest
      go (f ∷ fs) e o = absurd (omega (arith, h, o.0))
