-- The seven exchanges of specs/Exchanges.antt, computed: both calls as their promises say, on a table that keeps the book.
-- Assumes nothing.
use mathlib.Core.Path.{◌≡◌, refl}
use mathlib.Core.Bool.{Bool, true, false, false≢true}
use mathlib.Core.List.{List, [], ◌∷◌}
use mathlib.Core.Logic.{inl, inr}
use Prim.Native.Nat.{ℕ}
use lib.ListN.{length, take, replicate}
use Rattle.seqs.specs.Flag.{yes}
use Rattle.refusal.specs.First.{first_of, first_fault}
use Rattle.refusal.specs.Table.{refusal_of, refusal_at}
use Rattle.octets.specs.Same.{same}
use Rattle.message.specs.Numbers.{byte_at, pair_at, triple_at}
use Rattle.message.specs.Frame.{kind_of, body_of, overlong, cut_off, misstated, other_kind}
use Rattle.hello.specs.Layout.{big, field, counted, vector}
use Rattle.hello.specs.Extensions.{Extension, shaped, extension, list_of, extensions_of, has, twice, content_of, indication_of}
use Rattle.hello.specs.Fields.{Hello, Reading, fields, fault, opening, closing, client_layout, server_layout, lists, hello_fault, read_client, read_server}
use Rattle.hello.specs.Written.{written_list, written_block, behind_method}
use Rattle.sessions.specs.Book as book
use Rattle.sessions.specs.Book.{Book, empty, sought, store}
use Rattle.sessions.specs.Keeps.{Sound, table_of, Keeps}
use Rattle.sessions.proofs.Sound.{sound_empty, sound_after}
use Rattle.sessions.proofs.Alike.{keeps_table, kept_sought}
use Rattle.decision.specs.Connection.{fresh_connection, closed, wrong_first, decided, decision}
use Rattle.decision.specs.Reply.{reply_list, reply_of, offer_of, offer_turned}
use Rattle.decision.specs.Server.{on_offer, session_in, server_wrong, server_flag, resumable, server_outcome, server_reply, server_number, server_decision, server_output, DecidedBy, ServerDecides}
use Rattle.decision.specs.Client.{client_decision}
use Rattle.decision.specs.Agreement.{OurHello, SameSession}
use Rattle.decision.specs.Exchanges.{Case, strict, Meets, kept, later_connection, first_full, first_resumed, session_without_ems, session_lost, suite_unlisted, later_full, later_resumed, Witnesses}
use Rattle.decision.specs.declared.connection.Decision.{Decision}

-- one book for another in which the same sessions are found
session_alike : (r : Reading) (b b' : Book) → ((a : ℕ) (i : List ℕ) → sought a i b ≡ sought a i b') → session_in 3 r b ≡ session_in 3 r b'
unfolding session_in
session_alike (fields h) b b' e = rw (e 3 h.identifier)
session_alike (fault n p) b b' e = refl

-- the server's call as the definition has it
module _ (k : Case) where
  abbrev pub answered : Decision
  answered = server_decision 3 (read_client k.hello) (session_in 3 (read_client k.hello) k.book) k.connection strict (replicate 35 0)

  abbrev pub written : List ℕ
  written = server_output 3 (read_client k.hello) (session_in 3 (read_client k.hello) k.book) k.connection strict (replicate 35 0)

  module _ (sound : Sound k.book) (accepts : answered.refusal.number ≡ 0) where
    by_book : (b : Book) → Keeps (table_of k.book) b → DecidedBy 3 (read_client k.hello) b k.connection strict (replicate 35 0) answered written
    by_book b w =
        let e = session_alike (read_client k.hello) b k.book (kept_sought (table_of k.book) b k.book w (keeps_table k.book sound)) in
        record { answer = rw e; output = rw e }

    pub served : ServerDecides (table_of k.book) 3 (read_client k.hello) k.connection strict (replicate 35 0) answered written
    served =
        record {
          book = k.book;
          of_book = record { answer = refl; output = refl };
          refused = λ h. absurd (h accepts);
          answers = by_book;
        }

    meets : (asks answer : Hello) → read_client k.hello ≡ fields asks → OurHello k.connection k.offered asks → (s : SameSession 3 k.book k.offered k.lent)
        → read_server k.answer ≡ fields answer → behind_method k.answer answer ≡ take answered.reply_length written
        → ((length k.offered ≡ 0 → ⊥) → same answer.identifier k.offered ≡ yes answered.resumes)
        → (yes answered.resumes ≡ true → big answer.suites ≡ s.original.suite) → yes answered.resumes ≡ k.resumes → Meets k
    meets asks answer r o s a c n u q =
        record {
          table = table_of k.book;
          output = written;
          server = answered;
          client = client_decision (read_server k.answer) k.offered k.lent k.connection strict;
          exchange =
              record {
                keeps = keeps_table k.book sound;
                served = served;
                judged = refl;
                asks = asks;
                reads = r;
                ours = o;
                accepts = accepts;
                shares = s;
                answer = answer;
                answered = a;
                carries = c;
                repeats = n;
                suite = u;
              };
          outcome = q;
        }

-- a book of one session is one that a store makes
pub one : (e : Bool) (suite : ℕ) → Sound (kept e suite)
unfolding book.after book.store_number book.bad_name book.bad_axle book.bad_secret book.written book.struck book.many book.oldest first_of
one e suite = sound_after empty (store (record { axle = 3; identifier = 7 ∷ []; ems = e; suite = suite; secret = replicate 48 0 })) sound_empty

abbrev pub hello : List ℕ → List Extension → Hello
hello i es =
    record { version = 771; random = replicate 32 0; identifier = i; suites = 0 ∷ 47 ∷ []; methods = 0 ∷ []; block = true; extensions = es }

abbrev first : List Extension
first = reply_list fresh_connection true true

abbrev later : List Extension
later = reply_list later_connection true true

pub witnesses : Witnesses
unfolding first_of first_fault refusal_of refusal_at same byte_at pair_at triple_at kind_of body_of overlong cut_off misstated other_kind big field counted vector shaped extension list_of extensions_of has twice content_of indication_of opening closing client_layout server_layout lists hello_fault read_client read_server written_list written_block closed wrong_first decided decision reply_list reply_of offer_of offer_turned on_offer session_in server_wrong server_flag resumable server_outcome server_reply server_number server_decision server_output book.oldest book.is_of book.is_name book.is_named book.bad_axle
witnesses =
    record {
      first_full_lem =
          meets first_full sound_empty refl (hello [] (offer_of fresh_connection)) (hello (9 ∷ 9 ∷ []) first) refl
          (record { identifier = refl; signal = refl; extensions = inl refl })
          (record { original = record { ems = true; suite = 47 }; client = λ h. absurd (h refl); server = λ h. absurd (h refl) })
          refl refl (λ h. absurd (h refl)) (λ h. absurd (false≢true h)) refl;
      first_resumed_lem =
          meets first_resumed (one true 47) refl (hello (7 ∷ []) (offer_of fresh_connection)) (hello (7 ∷ []) first) refl
          (record { identifier = refl; signal = refl; extensions = inl refl })
          (record { original = record { ems = true; suite = 47 }; client = λ h. refl; server = λ h. inr refl })
          refl refl (λ h. refl) (λ h. refl) refl;
      session_without_ems_lem =
          meets session_without_ems (one false 47) refl (hello (7 ∷ []) (offer_turned fresh_connection)) (hello (9 ∷ 9 ∷ []) first) refl
          (record { identifier = refl; signal = refl; extensions = inr refl })
          (record { original = record { ems = false; suite = 47 }; client = λ h. refl; server = λ h. inr refl })
          refl refl (λ h. refl) (λ h. absurd (false≢true h)) refl;
      session_lost_lem =
          meets session_lost sound_empty refl (hello (7 ∷ []) (offer_of fresh_connection)) (hello (9 ∷ 9 ∷ []) first) refl
          (record { identifier = refl; signal = refl; extensions = inl refl })
          (record { original = record { ems = true; suite = 47 }; client = λ h. refl; server = λ h. inl refl })
          refl refl (λ h. refl) (λ h. absurd (false≢true h)) refl;
      suite_unlisted_lem =
          meets suite_unlisted (one true 53) refl (hello (7 ∷ []) (offer_of fresh_connection)) (hello (9 ∷ 9 ∷ []) first) refl
          (record { identifier = refl; signal = refl; extensions = inl refl })
          (record { original = record { ems = true; suite = 53 }; client = λ h. refl; server = λ h. inr refl })
          refl refl (λ h. refl) (λ h. absurd (false≢true h)) refl;
      later_full_lem =
          meets later_full sound_empty refl (hello [] (offer_of later_connection)) (hello (9 ∷ 9 ∷ []) later) refl
          (record { identifier = refl; signal = refl; extensions = inl refl })
          (record { original = record { ems = true; suite = 47 }; client = λ h. absurd (h refl); server = λ h. absurd (h refl) })
          refl refl (λ h. absurd (h refl)) (λ h. absurd (false≢true h)) refl;
      later_resumed_lem =
          meets later_resumed (one true 47) refl (hello (7 ∷ []) (offer_turned later_connection)) (hello (7 ∷ []) later) refl
          (record { identifier = refl; signal = refl; extensions = inr refl })
          (record { original = record { ems = true; suite = 47 }; client = λ h. refl; server = λ h. inr refl })
          refl refl (λ h. refl) (λ h. refl) refl;
    }
