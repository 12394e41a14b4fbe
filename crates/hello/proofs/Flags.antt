-- A flag that is handed over, and what is said of the extensions of a list by the answers of the chains over it.
-- Assumes nothing.
use Rattle.std.proofs.Common.{◌≡◌, refl, ◌∙◌, ap₂, Bool, true, false, List, ℕ, ◌-◌, ◌≤◌, length, Option, Some, None, option_map}
use Rattle.std.specs.Int.{from_bool}
use Rattle.std.specs.Option.{is_some, unwrap_or, UnwrapsOrElse, MatchOption, IsSomeAnd}
use Rattle.seqs.specs.Flag.{bit}
use Rattle.hello.specs.Extensions.{ri_kind, ems_kind, others_of}
use Rattle.hello.specs.Places.{part, bytes_part, extensions_at}
use Rattle.hello.specs.Cuts.{well_formed_at, list_at}
use Rattle.hello.specs.Entries.{data_in}
use Rattle.hello.specs.declared.parts.Part.{Part}
use Rattle.hello.proofs.Closings.{list_size}
use Rattle.hello.proofs.Entries.{data_there, data_part}

pub flagged : (b : Bool) → from_bool b ≡ bit b
flagged true = refl
flagged false = refl

-- the bytes of an RI, or an empty part at place 0 where there is none
pub bytes_or_none : (o p : Option Part) (r : Part) → MatchOption o (p ≡ None) (λ x. IsSomeAnd p (λ y. y ≡ bytes_part x))
    → UnwrapsOrElse p (λ (y : Part). (y.at ≡ 0) × (y.length ≡ 0)) r → r ≡ unwrap_or (option_map bytes_part o) (part 0 0)
bytes_or_none None None r h k = ap₂ part k.0 k.1
bytes_or_none None (Some y) r h k = let z : ◌≡◌ {A = Option Part} (Some y) None = h in cc
bytes_or_none (Some x) None r h k = absurd h
bytes_or_none (Some x) (Some y) r h k = k ∙ h

module _ (m : List ℕ) (b : Bool) (at : ℕ) (h : at ≤ length m) (w : well_formed_at m at ≡ true) where
  pub described_is : {block indicated ems others : ℕ} {indication : Part}
      → block ≡ from_bool b → indicated ≡ from_bool (is_some (data_in ri_kind at (list_at m at)))
      → indication ≡ unwrap_or (option_map bytes_part (data_in ri_kind at (list_at m at))) (part 0 0)
      → ems ≡ from_bool (is_some (data_in ems_kind at (list_at m at))) → others ≡ from_bool (others_of (list_at m at))
      → record { block = block; list = part at (length m - at); indicated = indicated; indication = indication; ems = ems; others = others } ≡ extensions_at b at (list_at m at)
  unfolding extensions_at
  described_is e₀ e₁ e₂ e₃ e₄ =
      rw (e₀, e₁, e₂, e₃, e₄, flagged b, flagged (is_some (data_in ri_kind at (list_at m at))), flagged (is_some (data_in ems_kind at (list_at m at))), flagged (others_of (list_at m at)))
      (rw (data_there ri_kind at (list_at m at), data_there ems_kind at (list_at m at), data_part ri_kind at (list_at m at), list_size m at h w) refl)
