-- What is taken goes behind what waits, and is counted.
-- Assumes nothing.
use Rattle.std.proofs.Common.{◌≡◌, ℕ, ◌%◌, List, length, sym, ap, ◌∙◌, arith, length-append, rules}
use Rattle.std.proofs.Math.Nat.{mod-eq_of_lt}
use Rattle.seqs.specs.Taken.{waiting}
use Rattle.seqs.proofs.Taking.{none_waits}
use Rattle.sha384.specs.Constants.{initial}
use Rattle.sha384.specs.Layout.{value_of}
use Rattle.sha384.specs.Running.{Running}
use Rattle.sha384.specs.declared.running.Hash384.{Hash384}
use Rattle.sha384.proofs.Counting.{counts_completed}
use Rattle.sha384.proofs.running.Hash384.take.Goals as goal
use Rattle.sha384.proofs.running.Hash384.take.Goals.{then-taken-eq0+then-bytes-ge128, else-taken-eq0}

pub returns : goal.returns
returns c =
    let t = c.take.ensures.taken (search rules) initial in
    let same : value_of c.if-taken-eq0.self.state ≡ value_of c.args.self.now.state =
    elim c.if-taken-eq0.branch [
      | then-taken-eq0+then-bytes-ge128 w ↦ ap (λ (h : Hash384). value_of h.state) w.self-is
      | else-taken-eq0 w ↦ ap (λ (h : Hash384). value_of h.state) w.self-is
    ] in
    -- what is blanked was blank
    let waits : (m : List ℕ) → Running c.args.self.now m → c.if-taken-eq0.self.tail ≡ waiting 128 m =
    (λ m h.
    elim c.if-taken-eq0.branch [
      | then-taken-eq0+then-bytes-ge128 w ↦
          let e : length m % 128 ≡ 0 = sym (ap (λ (i : ℕ). i % 128) h.holds.counted) ∙ w.if-taken-eq0.true in
          ap (λ (h : Hash384). h.tail) w.self-is ∙ sym (none_waits 128 (omega arith) m e)
      | else-taken-eq0 w ↦ ap (λ (h : Hash384). h.tail) w.self-is ∙ h.holds.waits
    ]) in
    record {
      runs =
          λ m h w.
          let r = t.runs m (record { worked = c.from-v.ensures ∙ same ∙ h.holds.worked; waits = waits m h; counted = h.holds.counted }) in
          record {
            holds = record { worked = c.from-self.ensures ∙ r.worked; waits = r.waits; counted = mod-eq_of_lt (omega (arith, h.holds.counted)) ∙ r.counted };
            bounded = simp length-append (omega arith);
          };
      counts = counts_completed c.args.bytes.now t.counts;
    }
