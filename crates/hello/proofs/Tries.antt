-- What `?` hands on: the reason itself.
-- Assumes nothing.
use Rattle.std.proofs.Common.{◌≡◌, ap, Result, Ok, Err}
use Rattle.std.specs.Result.{IsErrAnd}

pub handed_on : {A E : Type 0} (r : Result A E) (x : E) → IsErrAnd r (λ y. y ≡ x) → r ≡ Err x
handed_on (Ok y) x h = absurd h
handed_on (Err y) x h = ap Err h
