-- Such a message is within the bound of the hash.
-- Assumes nothing.
use Rattle.std.proofs.Common.{ap, ◌∙◌, arith}
use Rattle.sha256.specs.Laws.{digested_within}
use Rattle.prf.proofs.begun.StateBegun6432.digest_of.Goals as goal

pub returns : goal.returns
returns c h = ap (λ d. d.digest) c.sha256.ensures ∙ digested_within c.args.message.now (omega arith)
