-- What stands in the columns of a line, as facts on numbers.
-- Assumes nothing.
use mathlib.Core.Path.{◌≡◌, refl, ◌∙◌, ap, ap₂}
use mathlib.Core.List.{List, [], ◌∷◌}
use Prim.Native.Nat.{ℕ, ◌+◌, ◌≤◌, ◌<◌}
use native.Mathlib.Omega.{arith}
use lib.Dec.{eqb}
use lib.ListN.{length, get_or}
use borrow.Author.Tests.{eq-eqb, ne_eqb, eqb-true, eqb-false}
use Rattle.seqs.specs.Cases.{by_test}
use Rattle.refusal.specs.Listed.{numbered_at}
use Rattle.refusal.specs.declared.Refusal.{Refusal}
use Rattle.message.specs.Numbers.{byte_at}
use Rattle.message.specs.Frame.{kind_of}
use Rattle.message_log.specs.Standing.{Standing}
use Rattle.message_log.specs.Calls.{broken_at}
use Rattle.cases.specs.Digits.{ascii}
use Rattle.listing.specs.Texts.{column_of, printed}
use Rattle.listing.specs.Listing.{kind_column, decision_refusal, answer_of, hello_column, log_number, log_refusal, line_for}
use Rattle.listing.specs.declared.line.Column.{Column}
use Rattle.listing.specs.declared.line.Column.TheVariants.{Nothing, Number, Answer}
use Rattle.cases.proofs.Decimals.{one_long, three_most}
use Rattle.listing.proofs.Answers.{bare}

pub kind_none : (m : List ℕ) → length m ≡ 0 → kind_column m ≡ Nothing
unfolding kind_column
kind_none [] e = refl
kind_none (b ∷ m) e = absurd (omega arith)

pub kind_some : (m : List ℕ) → (length m ≡ 0 → ⊥) → kind_column m ≡ Number (get_or m 0 0)
unfolding kind_column
kind_some [] h = absurd (h refl)
kind_some (b ∷ m) h = refl

kind_one : (m : List ℕ) → kind_of m ≡ 1 → kind_column m ≡ Number 1
unfolding kind_of byte_at kind_column
kind_one [] e = absurd (omega (arith, e))
kind_one (b ∷ m) e = ap Number e

module _ (n : ℕ) (m : List ℕ) where
  pub hello_refused : (n ≡ 0 → ⊥) → hello_column n m ≡ Nothing
  unfolding hello_column
  hello_refused h = rw (ne_eqb n 0 h)

  pub hello_other : n ≡ 0 → (kind_of m ≡ 1 → ⊥) → hello_column n m ≡ Nothing
  unfolding hello_column
  hello_other e h = rw (eq-eqb n 0 e, ne_eqb (kind_of m) 1 h)

  pub hello_decided : n ≡ 0 → kind_of m ≡ 1 → hello_column n m ≡ answer_of (decision_refusal m)
  unfolding hello_column
  hello_decided e h = rw (eq-eqb n 0 e, eq-eqb (kind_of m) 1 h)

-- how long a dash and a type are
pub dash_most : (n : ℕ) → 1 ≤ n → length (column_of Nothing) ≤ n
unfolding column_of ascii
dash_most n h = h

pub kind_most : (n : ℕ) → n < 256 → length (column_of (Number n)) ≤ 3
unfolding column_of
kind_most n h = three_most n (omega arith)

-- columns of one byte
dash_long : (k : Column) → k ≡ Nothing → length (column_of k) ≡ 1
unfolding column_of ascii
dash_long k e = ap (λ (x : Column). length (column_of x)) e

number_long : (k : Column) (n : ℕ) → k ≡ Number n → n < 10 → length (column_of k) ≡ 1
unfolding column_of
number_long k n e h = ap (λ (x : Column). length (column_of x)) e ∙ one_long n h

accepted_long : (k : Column) (p : ℕ) → k ≡ Answer 0 p → length (column_of k) ≡ 1
unfolding column_of
accepted_long k p e =
    ap (λ (x : Column). length (column_of x)) e ∙ ap length (bare 0 p refl) ∙ one_long 0 (omega arith)

-- The longest line is that of a ClientHello which the log accepted: the hello column has a place beside type 1 and number 0 alone, and a
-- place in the log column has one digit.
module _ (n p : ℕ) (m : List ℕ) (kind log hello : Column) (e : kind ≡ kind_column m) (f : log ≡ Answer n p) (g : hello ≡ hello_column n m) where
  pub columns_most : length (column_of kind) ≤ 3 → length (column_of log) ≤ 3 → length (column_of hello) ≤ 7
      → length (column_of kind) + length (column_of log) + length (column_of hello) ≤ 9
  columns_most a b d =
      by_test (eqb n 0)
      (λ t.
      let z = eqb-true n 0 t in
      by_test (eqb (kind_of m) 1)
      (λ u. let k = kind_long (eqb-true (kind_of m) 1 u) in let l = log_long z in omega (arith, k, l))
      (λ u. omega (arith, dash_long hello (g ∙ hello_other n m z (eqb-false (kind_of m) 1 u)))))
      (λ t. omega (arith, dash_long hello (g ∙ hello_refused n m (eqb-false n 0 t))))
    where
      kind_long : kind_of m ≡ 1 → length (column_of kind) ≡ 1
      kind_long h = number_long kind 1 (e ∙ kind_one m h) (omega arith)

      log_long : n ≡ 0 → length (column_of log) ≡ 1
      log_long z = accepted_long log p (f ∙ ap (λ (x : ℕ). Answer x p) z)

-- the line by the log's answer
pub line_by : (i : ℕ) (h : Standing) (m : List ℕ) (r : Refusal) → r ≡ log_refusal h m → printed i (kind_column m) (answer_of r) (hello_column r.number m) ≡ line_for i h m
unfolding line_for log_refusal
line_by i h m r e =
    ap₂ (λ (a : Refusal) (n : ℕ). printed i (kind_column m) (answer_of a) (hello_column n m)) e (numbered_at (log_number h m) (broken_at m) r e)
