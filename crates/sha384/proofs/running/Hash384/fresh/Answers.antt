-- A fresh hash has taken nothing.
-- Assumes nothing.
use Rattle.std.proofs.Common.{[], replicate, sym, ◌∙◌, subst, arith}
use Rattle.seqs.specs.Taken.{Holds}
use Rattle.seqs.proofs.Taking.{holds_none}
use Rattle.seqs.specs.Sha2.{Value}
use Rattle.sha384.specs.Constants.{initial}
use Rattle.sha384.specs.Compress.{step}
use Rattle.sha384.proofs.running.Hash384.fresh.Goals as goal

pub returns : goal.returns
returns c =
    record {
      holds = subst (λ (s : Value). Holds 128 step initial s (replicate 128 0) 0 []) (sym (c.from-state.ensures ∙ c.initial.ensures)) (holds_none 128 (omega arith) step initial);
      bounded = omega arith;
    }
