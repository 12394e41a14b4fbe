-- What specs/Readings.antt says the answers of the hello readers tell.
-- Assumes nothing.
use mathlib.Core.Path.{◌≡◌, refl, sym, ◌∙◌, ap₂}
use Rattle.std.proofs.Common.{Result, Ok, Err}
use native.Mathlib.Omega.{arith}
use Rattle.seqs.specs.Cases.{by_test}
use Rattle.refusal.specs.Table.{placed, refusal_of}
use Rattle.refusal.specs.Listed.{numbered, listed, numbered_at, placed_at, listed_at}
use Rattle.refusal.specs.declared.Refusal.{Refusal}
use Rattle.hello.specs.Fields.{Reading, fault, read_client, read_server}
use Rattle.hello.specs.Places.{client_answer, server_answer}
use Rattle.hello.specs.Learnt.{ClientLearnt, ServerLearnt}
use Rattle.hello.specs.declared.client.ClientHello.{ClientHello}
use Rattle.hello.specs.declared.server.ServerHello.{ServerHello}
use Rattle.hello.proofs.Learnt.{Faulted, client_learnt, client_fault, server_learnt, server_fault}
use Rattle.gateway.specs.Hellos.{no_client_hello, no_server_hello, client_reading, server_reading}
use Rattle.gateway.specs.Readings.{Tells, ClientAnswerTells, ServerAnswerTells}

-- both cases of an answer, for either hello
module _ {Hello : Type 0} (reading : Reading) (Learnt : Hello → Type 0) (nothing : Hello) (x : Refusal) (hello : Hello) where
  tells_read : x ≡ refusal_of 0 → Learnt hello → Tells reading Learnt nothing x hello
  tells_read e l = record { read = λ z. l; refused = λ z. absurd (z (numbered 0 x e)); listed = listed 0 x e (omega arith) }

  tells_fault : Faulted reading x → hello ≡ nothing → Tells reading Learnt nothing x hello
  tells_fault f e =
      let n = numbered_at f.number f.place x f.refusal in
      let p = placed_at f.number f.place x f.refusal in
      let q : x.place ≡ f.place = by_test (placed f.number) (λ t. p ∙ (rw t)) (λ t. p ∙ (rw (t, f.bare t))) in
      record {
        read = λ z. absurd (f.some (sym n ∙ z));
        refused = λ z. (f.reading ∙ ap₂ fault (sym n) (sym q), e);
        listed = listed_at f.number f.place x f.refusal f.within;
      }

pub client_answer-tells : ClientAnswerTells
unfolding client_reading
client_answer-tells m r e = rw e (go (client_answer (read_client m)) refl)
  where
    go : (a : Result ClientHello Refusal) → a ≡ client_answer (read_client m)
        → Tells (read_client m) (ClientLearnt m) no_client_hello (client_reading a).refusal (client_reading a).hello
    go (Ok h) p = tells_read _ _ _ _ h refl (client_learnt m h p)
    go (Err x) p = tells_fault _ _ _ x _ (client_fault m x p) refl

pub server_answer-tells : ServerAnswerTells
unfolding server_reading
server_answer-tells m r e = rw e (go (server_answer (read_server m)) refl)
  where
    go : (a : Result ServerHello Refusal) → a ≡ server_answer (read_server m)
        → Tells (read_server m) (ServerLearnt m) no_server_hello (server_reading a).refusal (server_reading a).hello
    go (Ok h) p = tells_read _ _ _ _ h refl (server_learnt m h p)
    go (Err x) p = tells_fault _ _ _ x _ (server_fault m x p) refl
