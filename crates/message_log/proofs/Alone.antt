-- A log is one value for what it stands for: its hashes are one value for the bytes that they have taken, and every other field is fixed.
-- Assumes nothing.
use mathlib.Core.Path.{◌≡◌, sym, ◌∙◌}
use mathlib.Core.List.{List}
use Prim.Native.Nat.{ℕ}
use Rattle.transcript.specs.declared.Transcript.{Transcript}
use Rattle.transcript.proofs.Alone as transcript
use Rattle.message_log.specs.History.{choice_of}
use Rattle.message_log.specs.Standing.{Standing, history_of, entered}
use Rattle.message_log.specs.Standing.Standing.{whole, parted}
use Rattle.message_log.specs.Stands.{PartOf, OneLog}
use Rattle.message_log.specs.declared.state.Log.{Log}

-- what a log keeps of a message between parts
same_part : (log log' : Log) (s : Standing) → PartOf log s → PartOf log' s → (log.kind ≡ log'.kind) × (log.next ≡ log'.next) × (log.sha384 ≡ log'.sha384) × (log.left ≡ log'.left)
same_part log log' (whole h) p q = (p.kind ∙ sym q.kind, p.next ∙ sym q.next, p.sha384 ∙ sym q.sha384, p.left ∙ sym q.left)
same_part log log' (parted h part) p q = (p.kind ∙ sym q.kind, p.next ∙ sym q.next, p.sha384 ∙ sym q.sha384, p.left ∙ sym q.left)

same : {hash hash' : Transcript} {place place' kind kind' next next' sha384 sha384' left left' : ℕ} {session session' client client' server server' : List ℕ}
    → hash ≡ hash' → place ≡ place' → session ≡ session' → client ≡ client' → server ≡ server' → kind ≡ kind' → next ≡ next' → sha384 ≡ sha384' → left ≡ left'
    → ◌≡◌ {A = Log}
    (record { hash = hash; place = place; session = session; client = client; server = server; kind = kind; next = next; sha384 = sha384; left = left })
    (record { hash = hash'; place = place'; session = session'; client = client'; server = server'; kind = kind'; next = next'; sha384 = sha384'; left = left' })
same a b c d e f g h i = cc

pub alone : OneLog
alone log log' s p q =
    let (kind, next, sha384, left) = same_part log log' s p.part q.part in
    same (transcript.alone log.hash log'.hash (choice_of (history_of s)) (entered s) p.hash q.hash) (p.place.number ∙ sym q.place.number)
    (p.session ∙ sym q.session) (p.client ∙ sym q.client) (p.server ∙ sym q.server) kind next sha384 left
