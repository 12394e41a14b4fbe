-- The extension block, if there is one.
-- Assumes nothing.
use Rattle.std.proofs.Common.{◌+◌, ◌*◌, ◌≤◌, sym, length, arith}
use Rattle.hello.specs.Written.{two_bytes, written_list, written_block}
use Rattle.octets.proofs.Placing.{placed_more, placed_nothing}
use Rattle.writing.specs.Lent.{lent}
use Rattle.writing.proofs.Walking.{fitting_counts, fitting_sums}
use Rattle.writing.proofs.Listed.{written_long}
use Rattle.writing.proofs.places.put_block.Goals as goal

pub returns-then-list : goal.returns-then-list
unfolding written_block
returns-then-list c =
    let a = c.args in
    let l = a.list.now in
    let ts = l.types.now in
    let ns = l.lengths.now in
    let d = l.«data».now in
    let n = written_long ts ns d (fitting_counts ts ns d l.fits) (fitting_sums ts ns d l.fits) in
    let h : a.at + (2 + 4 * length ts + length d) ≤ length a.out.now = rw c.if-list.true at c.requires.0 in
    let w = placed_more a.out.now a.at c.put_pair-from.result (two_bytes (4 * length ts + length d)) (written_list (lent l)) (omega arith) c.put_pair-from.ensures.0 c.put_pair-from.ensures.1 c.put_list.ensures in
    rw (c.if-list.true, n) w

pub returns-else-list : goal.returns-else-list
returns-else-list c =
    rw c.if-list.false (sym (placed_nothing c.args.out.now c.args.at))
