-- Document 02, order 8: 'Two cases give an empty list exactly when their bytes are equal.' Proved in proofs/Exact.antt, each statement
-- under the name that stands above it.
-- Assumes nothing.
use Rattle.std.specs.Prelude.{◌≡◌, true, false, List, [], ◌⊎◌, ℕ, ◌≤◌, length, Result, Ok}
use Rattle.seqs.specs.Bytes.{Bytes}
use Rattle.cases.specs.Contents.{good_case}
use Rattle.comparing.specs.Differences.{differences}
use Rattle.comparing.specs.Comparison.{comparison}
use Rattle.comparing.specs.Longest.{longest}
use Rattle.comparing.specs.Promise.{Compares}
use Rattle.refusal.specs.declared.reason.Reason.{Reason}

-- 'Two cases give an empty list exactly when their bytes are equal.' (`empty_exactly_when_equal`)
abbrev pub EmptyExactlyWhenEqual : Type 0
EmptyExactlyWhenEqual =
    (a b : List ℕ) → Bytes a → Bytes b → good_case a ≡ true → good_case b ≡ true
    → (differences a b ≡ [] → a ≡ b) × (a ≡ b → differences a b ≡ [])

-- The same of what is printed: of two cases 'exactly when their bytes are equal' not one byte. (`nothing_printed`)
abbrev pub NothingPrinted : Type 0
NothingPrinted =
    (a b : List ℕ) → Bytes a → Bytes b → good_case a ≡ true → good_case b ≡ true
    → (comparison a b ≡ [] → a ≡ b) × (a ≡ b → comparison a b ≡ [])

-- 'Refusals: bad contents ..': where either is bad, something is printed, so that nothing printed says that both are good.
-- (`refused_is_printed`)
abbrev pub RefusedIsPrinted : Type 0
RefusedIsPrinted = (a b : List ℕ) → (good_case a ≡ false) ⊎ (good_case b ≡ false) → comparison a b ≡ [] → ⊥

-- Of any two byte strings nothing is printed exactly when the first is a good case and the two are equal. (`nothing_of_any`)
abbrev pub NothingOfAny : Type 0
NothingOfAny =
    (a b : List ℕ) → Bytes a → Bytes b
    → (comparison a b ≡ [] → (good_case a ≡ true) × (a ≡ b)) × (good_case a ≡ true → a ≡ b → comparison a b ≡ [])

-- The same of what the call ensures, given room for the longest text: the length that it answers is 0 just then. (`call_tells`)
abbrev pub CallTells : Type 0
CallTells =
    (a b out out' : List ℕ) (r : Result ℕ Reason) → Compares a b out out' r → longest ≤ length out → Bytes a → Bytes b
    → (r ≡ Ok 0 → (good_case a ≡ true) × (a ≡ b)) × (good_case a ≡ true → a ≡ b → r ≡ Ok 0)
