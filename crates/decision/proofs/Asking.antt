-- What a decision asks of a hello that was read, from the places of the reader's answer.
-- Assumes nothing.
use mathlib.Core.Path.{◌≡◌, sym, ◌∙◌, ap}
use mathlib.Core.Bool.{Bool}
use mathlib.Core.List.{List}
use mathlib.Core.Option.{Option, some}
use Prim.Native.Nat.{ℕ}
use lib.ListN.{take, drop}
use Rattle.seqs.specs.Flag.{yes, bit}
use Rattle.seqs.proofs.Flag.{yes_bit}
use Rattle.seqs.specs.Cases.{by_test}
use Rattle.hello.specs.Extensions.{Extension, ri_kind, has, indication_of}
use Rattle.hello.specs.Fields.{read_client, read_server}
use Rattle.hello.specs.Places.{bytes_at, Points, client_places, server_places, extensions_at}
use Rattle.hello.specs.declared.parts.Extensions.{Extensions}
use Rattle.hello.specs.declared.parts.Part.{Part}
use Rattle.hello.specs.declared.client.ClientHello.{ClientHello}
use Rattle.hello.specs.declared.server.ServerHello.{ServerHello}
use Rattle.hello.proofs.Found.{ri_none, ri_some}
use Rattle.hello.proofs.Learnt.{client_learnt, server_learnt}
use Rattle.decision.specs.Server.{asked}
use Rattle.decision.specs.Client.{told}
use Rattle.decision.specs.Steps.{ri_of, asked_of, told_of, ClientWas, ServerWas}

-- RI as the part of the message that the reader found
ri_said : (m : List ℕ) (es : List Extension) (p : Part) → ((bytes : List ℕ) → indication_of es ≡ some bytes → Points m p bytes)
    → ri_of (has ri_kind es) (take p.length (drop p.at m)) ≡ indication_of es
ri_said m es p h =
    by_test (has ri_kind es)
    (λ q. let r = ri_some es q in rw (q, r.1, (h r.0 r.1).is))
    (λ q. rw (q, ri_none es q))

same_asked : {a a' b b' : Bool} {r r' : Option (List ℕ)} → a ≡ a' → r ≡ r' → b ≡ b' → asked_of a r b ≡ asked_of a' r' b'
same_asked p q r = rw (p, q, r)

same_told : {i i' : List ℕ} {s s' : ℕ} {a a' b b' : Bool} {r r' : Option (List ℕ)} → i ≡ i' → s ≡ s' → r ≡ r' → a ≡ a' → b ≡ b'
    → told_of i s r a b ≡ told_of i' s' r' a' b'
same_told i s p q r = rw (i, s, p, q, r)

-- a flag of the answer
said : {x : ℕ} {t : Bool} → x ≡ bit t → yes x ≡ t
said {t = t} e = ap yes e ∙ yes_bit t

-- what is read of RI
pub ri_read : (m : List ℕ) (es : List Extension) (x : Extensions) → ((bytes : List ℕ) → indication_of es ≡ some bytes → Points m x.indication bytes) → x.indicated ≡ bit (has ri_kind es)
    → ri_of (yes x.indicated) (take x.indication.length (drop x.indication.at m)) ≡ indication_of es
ri_read m es x h i = rw (i, yes_bit (has ri_kind es)) (ri_said m es x.indication h)

pub asked_is : (m : List ℕ) (h : ClientHello) (ri : Option (List ℕ)) → ClientWas m h → ri ≡ ri_of (yes h.extensions.indicated) (bytes_at m h.extensions.indication)
    → asked_of (yes h.signal) ri (yes h.extensions.ems) ≡ asked (read_client m)
unfolding client_places extensions_at
asked_is m h ri w e =
    let l = client_learnt m h w in
    let es = l.hello.extensions in
    let i : h.extensions.indicated ≡ bit (has ri_kind es) = ap (λ (x : ClientHello). x.extensions.indicated) l.places in
    same_asked (said l.signal) (e ∙ ri_read m es h.extensions l.extensions.indication i) (said l.extensions.ems) ∙ sym (ap asked l.reading)

pub told_is : (m : List ℕ) (h : ServerHello) (i : List ℕ) (ri : Option (List ℕ)) → ServerWas m h → i ≡ bytes_at m h.identifier
    → ri ≡ ri_of (yes h.extensions.indicated) (bytes_at m h.extensions.indication)
    → told_of i h.suite ri (yes h.extensions.ems) (yes h.extensions.others) ≡ told (read_server m)
unfolding server_places extensions_at
told_is m h i ri w d e =
    let l = server_learnt m h w in
    let es = l.hello.extensions in
    let x : h.extensions.indicated ≡ bit (has ri_kind es) = ap (λ (x : ServerHello). x.extensions.indicated) l.places in
    same_told (d ∙ l.identifier.is) l.suite (e ∙ ri_read m es h.extensions l.extensions.indication x) (said l.extensions.ems) (said l.extensions.others) ∙ sym (ap told l.reading)
