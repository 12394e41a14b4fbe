-- The carried hashes go on: for every transcript and more bytes there is one that they have entered, whatever was carried before; and there
-- is one for every choice. And what one transcript carries has one choice, one length and one digest.
-- Assumes nothing.
use mathlib.Core.Path.{◌≡◌, refl, sym, ◌∙◌}
use mathlib.Core.List.{List}
use Prim.Native.Nat.{ℕ}
use lib.Dec.{eqb}
use lib.ListN.{length}
use borrow.Author.Tests.{eqb-true, eqb-false}
use Rattle.seqs.specs.Cases.{by_test}
use Rattle.sha256.specs.Laws as sha256-laws
use Rattle.sha256.proofs.Further as sha256-proofs
use Rattle.sha384.specs.Laws as sha384-laws
use Rattle.sha384.proofs.Further as sha384-proofs
use Rattle.transcript.specs.Choice.{Algorithm, Choice, algorithm_of}
use Rattle.transcript.specs.Choice.Algorithm.{sha_256, sha_384}
use Rattle.transcript.specs.Choice.Choice.{unchosen, chosen}
use Rattle.transcript.specs.Carries.{digest_of, Carries}
use Rattle.transcript.specs.Promise.{each, Enters}
use Rattle.transcript.specs.declared.Transcript.{Transcript}
use Rattle.transcript.proofs.Entering.{same_choice, enters_384, enters_256, enters_both}

-- a transcript that the bytes have entered, and the blocks that were worked
pub record Further (t : Transcript) (b : List ℕ) : Type 0 where
  pub next : Transcript
  pub worked256 : ℕ
  pub worked384 : ℕ
  pub enters : Enters t b next (each worked256 worked384)

pub further : (t : Transcript) (b : List ℕ) → Further t b
further t b =
    let j = sha256-proofs.further_takes t.sha256 b in
    let k = sha384-proofs.further_takes t.sha384 b in
    by_test (eqb t.choice 2)
    (λ e. record { next = _; worked256 = _; worked384 = _; enters = enters_384 t b _ _ k (eqb-true t.choice 2 e) })
    (λ e.
    by_test (eqb t.choice 1)
    (λ f. record { next = _; worked256 = _; worked384 = _; enters = enters_256 t b _ _ j (eqb-true t.choice 1 f) })
    (λ f. record { next = _; worked256 = _; worked384 = _; enters = enters_both t b _ _ j _ _ k (eqb-false t.choice 1 f) (eqb-false t.choice 2 e) }))

-- and one that carries the chosen hash alone
pub record Choosing (t : Transcript) (a : Algorithm) : Type 0 where
  pub next : Transcript
  pub chooses : (m : List ℕ) → Carries t unchosen m → Carries next (chosen a) m

pub choosing : (t : Transcript) (a : Algorithm) → Choosing t a
choosing t sha_256 =
    record {
      next = record { sha256 = t.sha256; sha384 = sha384-proofs.fresh; choice = 1 };
      chooses = λ m h. record { choice = refl; sha256 = h.sha256; sha384 = sha384-proofs.fresh_runs };
    }
choosing t sha_384 =
    record {
      next = record { sha256 = sha256-proofs.fresh; sha384 = t.sha384; choice = 2 };
      chooses = λ m h. record { choice = refl; sha256 = sha256-proofs.fresh_runs; sha384 = h.sha384 };
    }

module _ (t : Transcript) (m n : List ℕ) where
  pub one_choice : (c d : Choice) → Carries t c m → Carries t d n → c ≡ d
  one_choice c d p q = same_choice c d (sym p.choice ∙ q.choice)

  by_both : (P : Choice → Choice → Type 0) → ((c : Choice) → Carries t c m → Carries t c n → P c c)
      → (c d : Choice) → Carries t c m → Carries t d n → P c d
  by_both P f c d p q = let e = one_choice c d p q in rw (← e) (f c p (rw e q))

  pub one_digest : (c d : Choice) → Carries t c m → Carries t d n → digest_of (algorithm_of c) m ≡ digest_of (algorithm_of d) n
  one_digest = by_both (λ c d. digest_of (algorithm_of c) m ≡ digest_of (algorithm_of d) n) go
    where
      go : (c : Choice) → Carries t c m → Carries t c n → digest_of (algorithm_of c) m ≡ digest_of (algorithm_of c) n
      go unchosen p q = sha256-proofs.one_digest t.sha256 m n p.sha256 q.sha256
      go (chosen sha_256) p q = sha256-proofs.one_digest t.sha256 m n p.sha256 q.sha256
      go (chosen sha_384) p q = sha384-proofs.one_digest t.sha384 m n p.sha384 q.sha384

  pub same_length : (c d : Choice) → Carries t c m → Carries t d n → length m ≡ length n
  same_length = by_both (λ _ _. length m ≡ length n) go
    where
      go : (c : Choice) → Carries t c m → Carries t c n → length m ≡ length n
      go unchosen p q = sym (sha256-laws.taken_length p.sha256) ∙ sha256-laws.taken_length q.sha256
      go (chosen sha_256) p q = sym (sha256-laws.taken_length p.sha256) ∙ sha256-laws.taken_length q.sha256
      go (chosen sha_384) p q = sym (sha384-laws.taken_length p.sha384) ∙ sha384-laws.taken_length q.sha384
