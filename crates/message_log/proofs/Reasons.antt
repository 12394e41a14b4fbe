-- What the reasons of a refusal say: each has a number that is not 0, and the one that speaks of no place is the same at every place.
-- Assumes nothing.
use mathlib.Core.Path.{◌≡◌, refl, sym, ◌∙◌}
use Rattle.std.proofs.Common.{Option, Some, None, Result, Ok, Err}
use Rattle.std.specs.Option.{ok_or}
use Rattle.std.specs.Result.{IsErrAnd}
use Prim.Native.Nat.{ℕ}
use native.Mathlib.Omega.{arith}
use Rattle.refusal.specs.Table.{refusal_of, refusal_at}
use Rattle.refusal.specs.Listed.{anywhere, number_at, row_at}
use Rattle.refusal.specs.Reason.{number_for, place_for, refusal_for}
use Rattle.refusal.specs.declared.reason.Reason.{Reason}
use Rattle.refusal.specs.declared.reason.Reason.TheVariants.{Malformed, Repeated, Version, NotOffered, Indication, NoSecret, OutOfTurn, Differs, Closed, Length, Name, Suite}

pub for_number : (r : Reason) → (refusal_for r).number ≡ number_for r
for_number r = number_at (number_for r) (place_for r)

some : (r : Reason) → number_for r ≡ 0 → ⊥
some (Malformed place) e = omega (arith, e)
some (Repeated place) e = omega (arith, e)
some Version e = omega (arith, e)
some NotOffered e = omega (arith, e)
some Indication e = omega (arith, e)
some NoSecret e = omega (arith, e)
some OutOfTurn e = omega (arith, e)
some Differs e = omega (arith, e)
some Closed e = omega (arith, e)
some Length e = omega (arith, e)
some Name e = omega (arith, e)
some Suite e = omega (arith, e)

pub refuses : (r : Reason) → (refusal_for r).number ≡ 0 → ⊥
refuses r e = some r (sym (for_number r) ∙ e)

-- what a `?` hands on
pub handed_on : {A : Type 0} (r : Result A Reason) (e : Reason) → IsErrAnd r (λ x. x ≡ e) → r ≡ Err e
handed_on (Ok x) e h = absurd h
handed_on (Err x) e h = cc

-- what an `Option` made a `Result` says of it
pub nothing_there : {A : Type 0} (r : Option A) (e reason : Reason) → Err e ≡ ok_or r reason → (r ≡ None) × (e ≡ reason)
nothing_there None e reason h = (refl, cc)
nothing_there (Some x) e reason h = absurd cc

pub out_of_turn_is : refusal_for OutOfTurn ≡ refusal_of 7
unfolding refusal_of
out_of_turn_is = refl

module _ (p : ℕ) where
  -- those that speak of no place, at any
  pub out_of_turn_at : refusal_for OutOfTurn ≡ refusal_at 7 p
  unfolding refusal_of
  out_of_turn_at = anywhere 7 p refl

  pub differs_at : refusal_for Differs ≡ refusal_at 8 p
  unfolding refusal_of
  differs_at = anywhere 8 p refl

  pub length_at : refusal_for Length ≡ refusal_at 10 p
  unfolding refusal_of
  length_at = anywhere 10 p refl

  -- and what is done
  pub done_at : refusal_of 0 ≡ refusal_at (refusal_of 0).number p
  done_at = row_at 0 p (refusal_of 0) (anywhere 0 p refl)
