-- The log that bytes of a message have entered, as the code lays it out.
-- Assumes nothing.
use mathlib.Core.Path.{◌≡◌, refl}
use mathlib.Core.List.{List}
use Prim.Native.Nat.{ℕ}
use native.Mathlib.Omega.{arith}
use lib.Dec.{eqb}
use borrow.Author.Tests.{eq-eqb, ne_eqb, eqb-true, eqb-false}
use Rattle.seqs.specs.Flag.{yes}
use Rattle.seqs.specs.Cases.{by_test}
use Rattle.transcript.specs.Choice.{Algorithm, Choice, algorithm_by, algorithm_of}
use Rattle.transcript.specs.Choice.Choice.{unchosen, chosen}
use Rattle.transcript.specs.Carries.{Carries, digest_of}
use Rattle.transcript.specs.Promise.{Enters, EntersTo}
use Rattle.transcript.specs.Laws.{enters_on}
use Rattle.transcript.specs.declared.Transcript.{Transcript}
use Rattle.message_log.specs.Suite.{in_field}
use Rattle.message_log.specs.Steps.{CarriedBehind, Entered}
use Rattle.message_log.specs.declared.state.Log.{Log}
use Rattle.message_log.specs.declared.state.Turn.{Turn}

module _ (log : Log) (bytes : List ℕ) (t : Turn) (left : ℕ) (hash : Transcript) (worked : Algorithm → ℕ) (x : Enters log.hash bytes hash worked) where
  pub entered_part : (left ≡ 0 → ⊥)
      → Entered log bytes t left
      (record { hash = hash; place = log.place; session = log.session; client = log.client; server = log.server; kind = t.kind; next = t.place; sha384 = t.sha384; left = left })
      worked
  entered_part z =
      record {
        hash = hash;
        enters = x;
        client = refl;
        server = refl;
        parted = λ _. (refl, refl, refl, refl, refl, refl, refl);
        last = λ e. absurd (z e);
        chooses = λ e. absurd (z e);
        stays = λ e. absurd (z e);
        session = λ e. absurd (z e);
      }

  module _ (e : left ≡ 0) where
    -- a ServerHello chooses the hash
    pub entered_server : t.kind ≡ 2 → (chose : Transcript) → ((m : List ℕ) → Carries hash unchosen m → Carries chose (chosen (algorithm_by (yes t.sha384))) m)
        → Entered log bytes t left
        (record { hash = chose; place = t.place; session = log.session; client = log.client; server = log.server; kind = 0; next = 0; sha384 = 0; left = left })
        worked
    entered_server z chose f =
        record {
          hash = hash;
          enters = x;
          client = refl;
          server = refl;
          parted = λ q. absurd (q e);
          last = λ _. (refl, record { kind = refl; next = refl; sha384 = refl; left = e });
          chooses = λ _ _. f;
          stays = λ _ q. absurd (q z);
          session = λ _ c m h. rw (ne_eqb t.kind 16 (λ y. omega (arith, y, z)));
        }

    module _ (o : t.kind ≡ 2 → ⊥) where
      pub entered_exchange : t.kind ≡ 16 → (session : List ℕ)
          → ((c : Choice) (m : List ℕ) → Carries hash c m → session ≡ in_field (digest_of (algorithm_of c) m))
          → Entered log bytes t left
          (record { hash = hash; place = t.place; session = session; client = log.client; server = log.server; kind = 0; next = 0; sha384 = 0; left = left })
          worked
      entered_exchange z session f =
          record {
            hash = hash;
            enters = x;
            client = refl;
            server = refl;
            parted = λ q. absurd (q e);
            last = λ _. (refl, record { kind = refl; next = refl; sha384 = refl; left = e });
            chooses = λ _ q. absurd (o q);
            stays = λ _ _. refl;
            session = λ _ c m h. rw (eq-eqb t.kind 16 z) (f c m h);
          }

      pub entered_other : (t.kind ≡ 16 → ⊥)
          → Entered log bytes t left
          (record { hash = hash; place = t.place; session = log.session; client = log.client; server = log.server; kind = 0; next = 0; sha384 = 0; left = left })
          worked
      entered_other z =
          record {
            hash = hash;
            enters = x;
            client = refl;
            server = refl;
            parted = λ q. absurd (q e);
            last = λ _. (refl, record { kind = refl; next = refl; sha384 = refl; left = e });
            chooses = λ _ q. absurd (o q);
            stays = λ _ _. refl;
            session = λ _ c m h. rw (ne_eqb t.kind 16 z);
          }

-- as the code has it: the hashes in one call, with what is carried behind the bytes
module _ (log : Log) (bytes : List ℕ) (t : Turn) (left : ℕ) (choice : Choice) (y : CarriedBehind log t left choice) (next : Transcript) (worked : Algorithm → ℕ)
    (x : EntersTo log.hash bytes choice next worked) where
  abbrev With : ℕ → List ℕ → ℕ → ℕ → ℕ → Type 0
  With place session kind then told =
      Entered log bytes t left
      (record { hash = next; place = place; session = session; client = log.client; server = log.server; kind = kind; next = then; sha384 = told; left = left })
      worked

  module _ (e : left ≡ 0) where
    stays : (t.kind ≡ 2 → ⊥) → Enters log.hash bytes next worked
    stays o = enters_on x (y.stays (λ _ q. o q))

    -- a ServerHello, or another one
    pub other_entered : (t.kind ≡ 16 → ⊥) → With t.place log.session 0 0 0
    other_entered z =
        by_test (eqb t.kind 2)
        (λ q.
        let w = eqb-true t.kind 2 q in
        entered_server log bytes t left x.hash worked x.enters e w next (λ m h. x.chooses (algorithm_by (yes t.sha384)) m h (y.chosen e w)))
        (λ q. let o = eqb-false t.kind 2 q in entered_other log bytes t left next worked (stays o) e o z)
