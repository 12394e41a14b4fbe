-- What the calls promise.
-- Assumes nothing.
use Rattle.std.specs.Prelude.{◌≡◌, Bool, not, List, [], ◌∷◌, ◌++◌, ℕ, ⊤, eqb, ltb, length, drop, replicate, Result, Ok, Err}
use Rattle.seqs.specs.Pick.{pick}
use Rattle.refusal.specs.First.{first_of}
use Rattle.refusal.specs.Table.{refusal_of}
use Rattle.refusal.specs.declared.Refusal.{Refusal}
use Rattle.refusal.specs.declared.reason.Reason.{Reason}
use Rattle.refusal.specs.declared.reason.Reason.TheVariants.{Length}
use Rattle.prf.specs.Hash.{HashFunction, SHA256, SHA384}
use Rattle.prf.specs.Hmac.{hmac}
use Rattle.prf.specs.Secrets.{verify_data}
use Rattle.prf.specs.declared.keyed.Tagged.{Tagged}
use Rattle.prf.specs.declared.keyed.Tagged384.{Tagged384}

-- inside: a call that is refused for its lengths alone, by its number. With 0 it answers the value, with 10 it is refused
abbrev pub Answers : {A : Type 0} → Result A Reason → ℕ → A → Type 0
Answers (Ok x) number value = (number ≡ 0) × (x ≡ value)
Answers (Err r) number value = (number ≡ 10) × (r ≡ Length)

-- a call that answers nothing else
abbrev pub Tested : Result ⊤ Reason → ℕ → Type 0
Tested (Ok _) number = number ≡ 0
Tested (Err r) number = (number ≡ 10) × (r ≡ Length)

-- 'HMAC at most 65,536 of key and 65,536 of message; more is 10'
unfoldable pub hmac_number : ℕ → ℕ → ℕ
hmac_number key message = first_of ((10, ltb 65536 key) ∷ (10, ltb 65536 message) ∷ [])

-- the tag, and zeros in its place where the call is refused
abbrev pub tag_of : HashFunction → List ℕ → List ℕ → List ℕ
tag_of H key message = pick (eqb (hmac_number (length key) (length message)) 0) (hmac H key message) (replicate H.width 0)

unfoldable pub tagged_of : List ℕ → List ℕ → Tagged
tagged_of key message = record { refusal = refusal_of (hmac_number (length key) (length message)); tag = tag_of SHA256 key message }

unfoldable pub tagged384_of : List ℕ → List ℕ → Tagged384
tagged384_of key message = record { refusal = refusal_of (hmac_number (length key) (length message)); tag = tag_of SHA384 key message }

-- 'Another seed length, a pre-master secret not 1 to 512 bytes, or an output under 48 is 10': the lengths of the pre-master secret, of
-- the seed and of the output, with the seed's due length first
unfoldable pub secret_number : ℕ → ℕ → ℕ → ℕ → ℕ
secret_number due preMaster seed out =
    first_of ((10, ltb preMaster 1) ∷ (10, ltb 512 preMaster) ∷ (10, not (eqb seed due)) ∷ (10, ltb out 48) ∷ [])

-- a secret of 48 bytes for a lent output: 'The first 48 bytes are written, no more', and refused, none
pub record Derives (number : ℕ) (secret entry exit : List ℕ) (r : Refusal) : Type 0 where
  pub refusal : r ≡ refusal_of number
  pub written : exit ≡ pick (eqb number 0) (secret ++ drop 48 entry) entry

-- 'a 48-byte secret (else 10)'
unfoldable pub verify_number : ℕ → ℕ
verify_number secret = first_of ((10, not (eqb secret 48)) ∷ [])

-- the value, or the refusal
unfoldable pub verified_of : HashFunction → List ℕ → Bool → List ℕ → Result (List ℕ) Refusal
verified_of H secret server hash =
    pick (eqb (verify_number (length secret)) 0) (Ok (verify_data H secret server hash)) (Err (refusal_of (verify_number (length secret))))
