-- A fresh hash has taken nothing.
-- Assumes nothing.
use Rattle.std.proofs.Common.{[], replicate, sym, ◌∙◌, subst, arith}
use Rattle.seqs.specs.Taken.{Holds}
use Rattle.seqs.proofs.Taking.{holds_none}
use Rattle.seqs.specs.Sha2.{Value}
use Rattle.sha256.specs.Constants.{initial}
use Rattle.sha256.specs.Compress.{step}
use Rattle.sha256.proofs.running.Hash.fresh.Goals as goal

pub returns : goal.returns
returns c =
    record {
      holds = subst (λ (s : Value). Holds 64 step initial s (replicate 64 0) 0 []) (sym (c.from-state.ensures ∙ c.initial.ensures)) (holds_none 64 (omega arith) step initial);
      bounded = omega arith;
    }
