-- What is taken goes behind what waits, and is counted.
-- Assumes nothing.
use Rattle.std.proofs.Common.{◌∙◌, arith, length-append, rules}
use Rattle.std.proofs.Math.Nat.{mod-eq_of_lt}
use Rattle.sha256.specs.Constants.{initial}
use Rattle.sha256.proofs.Counting.{counts_completed}
use Rattle.sha256.proofs.running.Hash.take.Goals as goal

pub returns : goal.returns
returns c =
    let t = c.take.ensures.taken (search rules) initial in
    record {
      runs =
          λ m h w.
          let r = t.runs m (record { worked = c.from-v.ensures ∙ h.holds.worked; waits = h.holds.waits; counted = h.holds.counted }) in
          record {
            holds = record { worked = c.from-self.ensures ∙ r.worked; waits = r.waits; counted = mod-eq_of_lt (omega (arith, h.holds.counted)) ∙ r.counted };
            bounded = simp length-append (omega arith);
          };
      counts = counts_completed c.args.bytes.now t.counts;
    }
