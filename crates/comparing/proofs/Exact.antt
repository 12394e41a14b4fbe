-- Nothing is listed, and nothing printed, exactly when the bytes of two good cases are equal.
-- Assumes nothing.
use mathlib.Core.Path.{◌≡◌, refl, sym, ◌∙◌, ap, ap₂}
use mathlib.Core.Bool.{true, false}
use mathlib.Core.List.{List, [], ◌∷◌, cons-ne-nil, append-eq-nil_iff}
use mathlib.Core.Logic.{inl, inr}
use Prim.Native.Nat.{ℕ, ◌+◌}
use native.Mathlib.Omega.{arith}
use lib.Dec.{ltb}
use lib.ListN.{length}
use borrow.Author.Tests.{le-ltb}
use Rattle.std.proofs.Common.{Ok}
use Rattle.seqs.specs.Cases.{by_test, not_both}
use Rattle.octets.specs.Same.{same}
use Rattle.octets.specs.Equal.{same_true, same_refl}
use Rattle.cases.specs.Contents.{good_case, bodies_of}
use Rattle.cases.specs.Digits.{ascii}
use Rattle.cases.specs.Layout.{case_of}
use Rattle.cases.proofs.Laid.{laid_out}
use Rattle.comparing.specs.Differences.{How, first, second, byte, field, extension, Difference, alone, message_differences, differences_from, differences}
use Rattle.comparing.specs.Comparison.{line, line_of, text, first_refused, second_refused, comparison}
use Rattle.comparing.specs.Longest.{longest}
use Rattle.comparing.specs.Promise.{too_short}
use Rattle.comparing.specs.Exact.{EmptyExactlyWhenEqual, NothingPrinted, RefusedIsPrinted, NothingOfAny, CallTells}
use Rattle.comparing.proofs.Judging.{first_bad, second_bad, both_good}
use Rattle.comparing.proofs.Texts.{line_long}

none_long : {A : Type 0} (xs : List A) → length xs ≡ 0 → xs ≡ []
none_long [] e = refl
none_long (x ∷ xs) e = absurd (omega arith)

-- two messages
message_none : (i : ℕ) (m n : List ℕ) → message_differences i m n ≡ [] → m ≡ n
unfolding message_differences
message_none i m n e = by_test (same m n) (λ t. same_true m n t) (λ t. absurd (cons-ne-nil _ _ (rw t at e)))

message_same : (i : ℕ) (m : List ℕ) → message_differences i m m ≡ []
unfolding message_differences
message_same i m = rw (same_refl m)

-- all of them
none_from : (i : ℕ) (ms ns : List (List ℕ)) → differences_from i ms ns ≡ [] → ms ≡ ns
unfolding differences_from alone
none_from i [] [] e = refl
none_from i [] (n ∷ ns) e = absurd (cons-ne-nil _ _ e)
none_from i (m ∷ ms) [] e = absurd (cons-ne-nil _ _ e)
none_from i (m ∷ ms) (n ∷ ns) e =
    let h = (append-eq-nil_iff {p = message_differences i m n}).0 e in
    ap₂ {C = List (List ℕ)} (λ x xs. x ∷ xs) (message_none i m n h.0) (none_from (i + 1) ms ns h.1)

same_from : (i : ℕ) (ms : List (List ℕ)) → differences_from i ms ms ≡ []
unfolding differences_from alone
same_from i [] = refl
same_from i (m ∷ ms) = rw (message_same i m) (same_from (i + 1) ms)

differences_same : (a b : List ℕ) → a ≡ b → differences a b ≡ []
unfolding differences
differences_same a b e = rw e (same_from 1 (bodies_of b))

pub empty_exactly_when_equal : EmptyExactlyWhenEqual
unfolding differences
empty_exactly_when_equal a b p q g h =
    (λ e. laid_out a p g ∙ ap case_of (none_from 1 (bodies_of a) (bodies_of b) e) ∙ sym (laid_out b q h), differences_same a b)

-- no line is empty, so only no difference has no text
line_some : (i : ℕ) (word of : List ℕ) → line i word of ≡ [] → ⊥
line_some i word of e = omega (arith, line_long i word of, ap length e)

line_of-some : (d : Difference) → line_of d ≡ [] → ⊥
unfolding line_of
line_of-some d = of d.how
  where
    of : (h : How) → line_of (record { message = d.message; how = h }) ≡ [] → ⊥
    of first = line_some _ _ _
    of second = line_some _ _ _
    of (byte p) = line_some _ _ _
    of (field name) = line_some _ _ _
    of (extension t) = line_some _ _ _

text_none : (ds : List Difference) → text ds ≡ [] → ds ≡ []
unfolding text
text_none [] e = refl
text_none (d ∷ ds) e = absurd (line_of-some d (append-eq-nil_iff.0 e).0)

-- where one of them is bad something is printed
module _ (a b : List ℕ) where
  first_printed : good_case a ≡ false → comparison a b ≡ [] → ⊥
  unfolding first_refused ascii
  first_printed g e = cons-ne-nil _ _ (sym (first_bad a b g) ∙ e)

  second_printed : good_case a ≡ true → good_case b ≡ false → comparison a b ≡ [] → ⊥
  unfolding second_refused ascii
  second_printed g h e = cons-ne-nil _ _ (sym (second_bad a b g h) ∙ e)

  judged_good : comparison a b ≡ [] → (good_case a ≡ true) × (good_case b ≡ true)
  judged_good e =
      by_test (good_case a)
      (λ g. by_test (good_case b) (λ h. (g, h)) (λ h. absurd (second_printed g h e)))
      (λ g. absurd (first_printed g e))

pub nothing_printed : NothingPrinted
unfolding text
nothing_printed a b p q g h =
    let x = empty_exactly_when_equal a b p q g h in
    (λ e. x.0 (text_none (differences a b) (sym (both_good a b g h) ∙ e)), λ e. both_good a b g h ∙ ap text (x.1 e))

pub refused_is_printed : RefusedIsPrinted
refused_is_printed a b (inl g) e = not_both (judged_good a b e).0 g
refused_is_printed a b (inr h) e = not_both (judged_good a b e).1 h

pub nothing_of_any : NothingOfAny
nothing_of_any a b p q =
    (λ e. let (g, h) = judged_good a b e in (g, (nothing_printed a b p q g h).0 e), λ g e. (nothing_printed a b p q g (rw e at g)).1 e)

pub call_tells : CallTells
unfolding too_short
call_tells a b out out' r c room p q =
    let t : ltb (length out) longest ≡ false = le-ltb (length out) longest room in
    let n : r ≡ Ok (length (comparison a b)) = rw t at c.answer in
    let x = nothing_of_any a b p q in
    (λ e. let z : Ok (length (comparison a b)) ≡ Ok 0 = sym n ∙ e in x.0 (none_long (comparison a b) (cc)), λ g e. n ∙ ap (λ (s : List ℕ). Ok (length s)) (x.1 g e))
