-- More bytes enter each carried hash, and the other one stays fresh; and what is carried behind them.
-- Assumes nothing.
use mathlib.Core.Path.{◌≡◌, refl, sym, ◌∙◌, ap}
use mathlib.Core.List.{List, [], ◌++◌}
use Prim.Native.Nat.{ℕ, suc, ◌+◌, ◌≤◌}
use native.Mathlib.Omega.{arith}
use lib.ListN.{length}
use lib.Dec.{eqb}
use borrow.Author.Tests.{eqb-true, eqb-false, ne_eqb}
use Rattle.seqs.specs.Cases.{by_test}
use Rattle.sha256.specs.Running.{most}
use Rattle.sha256.specs.Promise as sha256-specs
use Rattle.sha256.specs.Running as sha256-running
use Rattle.sha256.specs.declared.running.Hash.{Hash}
use Rattle.sha384.specs.Promise as sha384-specs
use Rattle.sha384.specs.Running as sha384-running
use Rattle.sha384.specs.declared.running.Hash384.{Hash384}
use Rattle.transcript.specs.Choice.{Algorithm, Choice}
use Rattle.transcript.specs.Choice.Algorithm.{sha_256, sha_384}
use Rattle.transcript.specs.Choice.Choice.{unchosen, chosen}
use Rattle.transcript.specs.Allowance.{blocks}
use Rattle.transcript.specs.Carries.{choice_number, choice_in, Carries}
use Rattle.transcript.specs.Promise.{each, Enters, EntersTo}
use Rattle.transcript.specs.declared.Transcript.{Transcript}

-- a transcript has one number for what is chosen
pub same_choice : (c d : Choice) → choice_number c ≡ choice_number d → c ≡ d
same_choice unchosen unchosen e = refl
same_choice unchosen (chosen sha_256) e = absurd (omega (arith, e))
same_choice unchosen (chosen sha_384) e = absurd (omega (arith, e))
same_choice (chosen sha_256) unchosen e = absurd (omega (arith, e))
same_choice (chosen sha_256) (chosen sha_256) e = refl
same_choice (chosen sha_256) (chosen sha_384) e = absurd (omega (arith, e))
same_choice (chosen sha_384) unchosen e = absurd (omega (arith, e))
same_choice (chosen sha_384) (chosen sha_256) e = absurd (omega (arith, e))
same_choice (chosen sha_384) (chosen sha_384) e = refl

-- what is chosen is told apart by its number
distinct : {X : Type 0} {a : Algorithm} → chosen a ≡ unchosen → X
distinct {a = sha_256} e = absurd (omega (arith, ap choice_number e))
distinct {a = sha_384} e = absurd (omega (arith, ap choice_number e))

other : chosen sha_256 ≡ chosen sha_384 → ⊥
other e = omega (arith, ap choice_number e)

-- by the byte that a transcript has
module _ (t : Transcript) where
  pub of_256 : t.choice ≡ 1 → choice_in t ≡ chosen sha_256
  unfolding choice_in
  of_256 e = rw e

  pub of_384 : t.choice ≡ 2 → choice_in t ≡ chosen sha_384
  unfolding choice_in
  of_384 e = rw e

  pub of_other : (t.choice ≡ 1 → ⊥) → (t.choice ≡ 2 → ⊥) → choice_in t ≡ unchosen
  unfolding choice_in
  of_other e f = rw (ne_eqb t.choice 1 e, ne_eqb t.choice 2 f)

  by_byte : {P : Type 0} → (t.choice ≡ 1 → P) → (t.choice ≡ 2 → P) → ((t.choice ≡ 1 → ⊥) → (t.choice ≡ 2 → ⊥) → P) → P
  by_byte one two none =
      by_test (eqb t.choice 1)
      (λ e. one (eqb-true t.choice 1 e))
      (λ e. by_test (eqb t.choice 2) (λ f. two (eqb-true t.choice 2 f)) (λ f. none (eqb-false t.choice 1 e) (eqb-false t.choice 2 f)))

  pub choice_carried : (c : Choice) (m : List ℕ) → Carries t c m → choice_in t ≡ c
  choice_carried unchosen m h = of_other (λ e. omega (arith, e, h.choice)) (λ e. omega (arith, e, h.choice))
  choice_carried (chosen sha_256) m h = of_256 h.choice
  choice_carried (chosen sha_384) m h = of_384 h.choice

  pub unchosen_in : unchosen ≡ choice_in t → (t.choice ≡ 1 → ⊥) × (t.choice ≡ 2 → ⊥)
  unchosen_in e = (λ z. distinct (sym (of_256 z) ∙ sym e), λ z. distinct (sym (of_384 z) ∙ sym e))

  pub chosen_256 : chosen sha_256 ≡ choice_in t → t.choice ≡ 1
  chosen_256 e = by_byte (λ z. z) (λ z. absurd (other (e ∙ of_384 z))) (λ y z. distinct (e ∙ of_other y z))

  pub chosen_384 : chosen sha_384 ≡ choice_in t → t.choice ≡ 2
  chosen_384 e = by_byte (λ z. absurd (other (sym (of_256 z) ∙ sym e))) (λ z. z) (λ y z. distinct (e ∙ of_other y z))

module _ (t : Transcript) (b : List ℕ) where
  module _ (h : Hash384) (w : ℕ) (k : sha384-specs.Takes t.sha384 b h w) where
    pub enters_384 : t.choice ≡ 2 → Enters t b (record { sha256 = t.sha256; sha384 = h; choice = t.choice }) (each 0 w)
    unfolding blocks
    enters_384 e =
        record {
          carries = goes;
          counts = counts;
        }
      where
        goes : (c : Choice) (m : List ℕ) → Carries t c m → length m + length b ≤ most
            → Carries (record { sha256 = t.sha256; sha384 = h; choice = t.choice }) c (m ++ b)
        goes unchosen m p l = absurd (omega (arith, e, p.choice))
        goes (chosen sha_256) m p l = absurd (omega (arith, e, p.choice))
        goes (chosen sha_384) m p l = record { choice = p.choice; sha256 = p.sha256; sha384 = k.runs m p.sha384 l }

        counts : (c : Choice) (m : List ℕ) → Carries t c m → (a : Algorithm) → each 0 w a ≡ blocks c a m b
        counts unchosen m p a = absurd (omega (arith, e, p.choice))
        counts (chosen sha_256) m p a = absurd (omega (arith, e, p.choice))
        counts (chosen sha_384) m p sha_256 = refl
        counts (chosen sha_384) m p sha_384 = k.counts m p.sha384

  module _ (g : Hash) (v : ℕ) (j : sha256-specs.Takes t.sha256 b g v) where
    pub enters_256 : t.choice ≡ 1 → Enters t b (record { sha256 = g; sha384 = t.sha384; choice = t.choice }) (each v 0)
    unfolding blocks
    enters_256 e =
        record {
          carries = goes;
          counts = counts;
        }
      where
        goes : (c : Choice) (m : List ℕ) → Carries t c m → length m + length b ≤ most
            → Carries (record { sha256 = g; sha384 = t.sha384; choice = t.choice }) c (m ++ b)
        goes unchosen m p l = absurd (omega (arith, e, p.choice))
        goes (chosen sha_256) m p l = record { choice = p.choice; sha256 = j.runs m p.sha256 l; sha384 = p.sha384 }
        goes (chosen sha_384) m p l = absurd (omega (arith, e, p.choice))

        counts : (c : Choice) (m : List ℕ) → Carries t c m → (a : Algorithm) → each v 0 a ≡ blocks c a m b
        counts unchosen m p a = absurd (omega (arith, e, p.choice))
        counts (chosen sha_256) m p sha_256 = j.counts m p.sha256
        counts (chosen sha_256) m p sha_384 = refl
        counts (chosen sha_384) m p a = absurd (omega (arith, e, p.choice))

    module _ (h : Hash384) (w : ℕ) (k : sha384-specs.Takes t.sha384 b h w) where
      pub enters_both : (t.choice ≡ 1 → ⊥) → (t.choice ≡ 2 → ⊥)
          → Enters t b (record { sha256 = g; sha384 = h; choice = t.choice }) (each v w)
      unfolding blocks
      enters_both e f =
          record {
            carries = goes;
            counts = counts;
          }
        where
          goes : (c : Choice) (m : List ℕ) → Carries t c m → length m + length b ≤ most
              → Carries (record { sha256 = g; sha384 = h; choice = t.choice }) c (m ++ b)
          goes unchosen m p l = record { choice = p.choice; sha256 = j.runs m p.sha256 l; sha384 = k.runs m p.sha384 l }
          goes (chosen sha_256) m p l = absurd (e p.choice)
          goes (chosen sha_384) m p l = absurd (f p.choice)

          counts : (c : Choice) (m : List ℕ) → Carries t c m → (a : Algorithm) → each v w a ≡ blocks c a m b
          counts unchosen m p sha_256 = j.counts m p.sha256
          counts unchosen m p sha_384 = k.counts m p.sha384
          counts (chosen sha_256) m p a = absurd (e p.choice)
          counts (chosen sha_384) m p a = absurd (f p.choice)

-- what is carried behind bytes that have entered, of a transcript with what is told
module _ (t hash : Transcript) (b : List ℕ) (told : Choice) (w : Algorithm → ℕ) (x : Enters t b hash w) where
  on : ((a : Algorithm) (m : List ℕ) → Carries hash unchosen m → told ≡ chosen a → ⊥) → EntersTo t b told hash w
  on none = record { hash = hash; enters = x; stays = λ _. refl; chooses = λ a m p e. absurd (none a m p e) }

  -- as before, since one is chosen already
  pub goes_on : (i : ℕ) → hash.choice ≡ suc i → EntersTo t b told hash w
  goes_on i e = on (λ a m p _. omega (arith, e, p.choice))

  -- or since none is told
  pub untold : told ≡ unchosen → EntersTo t b told hash w
  untold e = on (λ a m p q. distinct (sym q ∙ e))

  -- the one that is told, and the other one is given up
  pub chooses_256 : told ≡ chosen sha_256 → unchosen ≡ choice_in t → (h : Hash384) → sha384-running.Running h []
      → (n : ℕ) → n ≡ 1 → EntersTo t b told (record { sha256 = hash.sha256; sha384 = h; choice = n }) w
  chooses_256 e z h f n g =
      rw g
      record { hash = hash; enters = x; stays = λ s. distinct (sym e ∙ s ∙ sym z); chooses = chooses }
    where
      chooses : (a : Algorithm) (m : List ℕ) → Carries hash unchosen m → told ≡ chosen a
          → Carries (record { sha256 = hash.sha256; sha384 = h; choice = 1 }) (chosen a) m
      chooses sha_256 m p q = record { choice = refl; sha256 = p.sha256; sha384 = f }
      chooses sha_384 m p q = absurd (other (sym e ∙ q))

  pub chooses_384 : told ≡ chosen sha_384 → unchosen ≡ choice_in t → (h : Hash) → sha256-running.Running h []
      → (n : ℕ) → n ≡ 2 → EntersTo t b told (record { sha256 = h; sha384 = hash.sha384; choice = n }) w
  chooses_384 e z h f n g =
      rw g
      record { hash = hash; enters = x; stays = λ s. distinct (sym e ∙ s ∙ sym z); chooses = chooses }
    where
      chooses : (a : Algorithm) (m : List ℕ) → Carries hash unchosen m → told ≡ chosen a
          → Carries (record { sha256 = h; sha384 = hash.sha384; choice = 2 }) (chosen a) m
      chooses sha_256 m p q = absurd (other (sym q ∙ e))
      chooses sha_384 m p q = record { choice = refl; sha256 = f; sha384 = p.sha384 }
