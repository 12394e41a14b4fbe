-- What specs/Rewriting.antt says of reading, handing out and writing.
-- Assumes nothing.
use mathlib.Core.Path.{◌≡◌}
use mathlib.Core.Bool.{Bool, true, false}
use mathlib.Core.List.{List}
use Prim.Native.Nat.{ℕ}
use Rattle.seqs.specs.Flag.{yes, bit}
use Rattle.hello.proofs.Handed.{handed, handed_once}
use Rattle.writing.specs.Promise.{WritesClient, WritesServer}
use Rattle.writing.specs.declared.judging.Written.{Written}
use Rattle.writing.proofs.RoundTrip.{client_call_writes, server_call_writes}
use Rattle.gateway.specs.Rewriting.{ClientAgain, ServerAgain}
use Rattle.gateway.proofs.Readings.{client_answer-tells, server_answer-tells}

-- the flag of the block, as it crosses the face
flag_back : {n : ℕ} (b : Bool) → n ≡ bit b → yes n ≡ b
flag_back true e = rw e
flag_back false e = rw e

-- equal arguments
same_client : {v v' : ℕ} {r r' i i' s s' m m' : List ℕ} {b b' : Bool} (ts ns d out out' : List ℕ) (w : Written)
    → v ≡ v' → r ≡ r' → i ≡ i' → s ≡ s' → m ≡ m' → b ≡ b'
    → WritesClient v r i s m b ts ns d out out' w → WritesClient v' r' i' s' m' b' ts ns d out out' w
same_client ts ns d out out' w e₀ e₁ e₂ e₃ e₄ e₅ p = rw (← e₀, ← e₁, ← e₂, ← e₃, ← e₄, ← e₅) p

same_server : {v v' : ℕ} {r r' i i' : List ℕ} {s s' c c' : ℕ} {b b' : Bool} (ts ns d out out' : List ℕ) (w : Written)
    → v ≡ v' → r ≡ r' → i ≡ i' → s ≡ s' → c ≡ c' → b ≡ b'
    → WritesServer v r i s c b ts ns d out out' w → WritesServer v' r' i' s' c' b' ts ns d out out' w
same_server ts ns d out out' w e₀ e₁ e₂ e₃ e₄ e₅ p = rw (← e₀, ← e₁, ← e₂, ← e₃, ← e₄, ← e₅) p

pub client_again : ClientAgain
client_again m r h e z =
    let l = (client_answer-tells m r e).read z in
    let x = l.extensions in
    record {
      extensions = l.hello.extensions;
      handed = handed m _ _ _ x;
      written =
          λ es q out out' w p.
          let g : es ≡ l.hello.extensions = handed_once m _ es l.hello.extensions q (handed m _ _ _ x) in
          (client_call_writes m l.hello h l.reading).1 out out' w
          (same_client _ _ _ out out' w l.version l.random.is l.identifier.is l.suites.is l.methods.is (flag_back l.hello.block x.block) (rw g at p));
    }

pub server_again : ServerAgain
server_again m r h e z =
    let l = (server_answer-tells m r e).read z in
    let x = l.extensions in
    record {
      extensions = l.hello.extensions;
      handed = handed m _ _ _ x;
      written =
          λ es q out out' w p.
          let g : es ≡ l.hello.extensions = handed_once m _ es l.hello.extensions q (handed m _ _ _ x) in
          (server_call_writes m l.hello h l.reading).1 out out' w
          (same_server _ _ _ out out' w l.version l.random.is l.identifier.is l.suite l.compression (flag_back l.hello.block x.block) (rw g at p));
    }
