-- One block, from the initial hash value.
-- Assumes nothing.
use Rattle.std.proofs.Common.{◌≡◌, length, ◌∙◌, ap₂, arith, take_all, rules}
use Rattle.sha384.specs.Compress.{step}
use Rattle.sha384.proofs.compress.State384.of_block.Goals as goal

pub returns : goal.returns
returns c =
    let n : length c.args.b ≡ 128 = search rules in
    record {
      whole = n;
      value = c.from.ensures ∙ c.compress.ensures.block (omega (arith, n)) ∙ ap₂ step c.initial-v.ensures (take_all 128 c.args.b (omega arith));
    }
