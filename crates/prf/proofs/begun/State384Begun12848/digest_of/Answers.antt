-- Such a message is within the bound of the hash.
-- Assumes nothing.
use Rattle.std.proofs.Common.{ap, ◌∙◌, arith}
use Rattle.sha384.specs.Laws.{digested_within}
use Rattle.prf.proofs.begun.State384Begun12848.digest_of.Goals as goal

pub returns : goal.returns
returns c h = ap (λ d. d.digest) c.sha384.ensures ∙ digested_within c.args.message.now (omega arith)
