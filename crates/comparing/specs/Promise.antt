-- What `compare` promises, for any bytes: the length of the text, or why there is none, and the whole lent output.
-- Assumes nothing.
use Rattle.std.specs.Prelude.{◌≡◌, Bool, List, ◌++◌, ℕ, ◌≤◌, ltb, length, drop, Result, Ok, Err, IfOk}
use Rattle.seqs.specs.Pick.{pick}
use Rattle.refusal.specs.declared.reason.Reason.{Reason}
use Rattle.refusal.specs.declared.reason.Reason.TheVariants.{Length}
use Rattle.comparing.specs.Comparison.{comparison}
use Rattle.comparing.specs.Longest.{longest}

-- the output is shorter than the longest text
unfoldable pub too_short : List ℕ → Bool
too_short out = ltb (length out) longest

pub record Compares (a b out out' : List ℕ) (r : Result ℕ Reason) : Type 0 where
  pub answer : r ≡ pick (too_short out) (Err Length) (Ok (length (comparison a b)))
  -- the text at the front, and the rest as it was; refused, all is as it was
  pub output : out' ≡ pick (too_short out) out (comparison a b ++ drop (length (comparison a b)) out)
  pub fits : IfOk r (λ n. n ≤ longest)
