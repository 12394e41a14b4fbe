-- What is chosen.
-- Assumes nothing.
use Rattle.std.proofs.Common.{◌≡◌, sym, ◌∙◌, ap, Option, Some, None}
use Rattle.std.specs.Option.{option_eq}
use Rattle.transcript.specs.Choice.{Choice, algorithm_of, algorithm_by}
use Rattle.transcript.specs.Told.{told_in}
use Rattle.transcript.specs.declared.algorithm.Algorithm.{Algorithm}
use Rattle.transcript.specs.declared.algorithm.Algorithm.TheVariants.{Sha256, Sha384}
use Rattle.transcript.specs.contracts.algorithm.AlgorithmPartialEq.TheImpl.{eq-value}
use Rattle.transcript.proofs.Entering.{choice_carried}
use Rattle.transcript.proofs.Transcript.is_sha384.Goals as goal

by_told : (o : Option Algorithm) (c : Choice) → told_in o ≡ c → algorithm_of c ≡ algorithm_by (option_eq eq-value.it o (Some Sha384))
by_told None c e = ap algorithm_of (sym e)
by_told (Some Sha256) c e = ap algorithm_of (sym e)
by_told (Some Sha384) c e = ap algorithm_of (sym e)

pub returns : goal.returns
returns x c m h = by_told x.chosen.result c (x.chosen.ensures ∙ choice_carried _ c m h) ∙ ap algorithm_by (sym x.eq.ensures)
