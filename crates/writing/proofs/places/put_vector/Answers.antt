-- A length, and so many bytes.
-- Assumes nothing.
use Rattle.std.proofs.Common.{◌≤◌, ◌+◌, ◌∷◌, [], ◌∙◌, length, arith}
use borrow.Author.Tests.{lt-ltb, le-ltb}
use Rattle.hello.specs.Written.{two_bytes}
use Rattle.octets.proofs.Placing.{placed_more}
use Rattle.writing.proofs.places.put_vector.Goals as goal
use Rattle.writing.proofs.places.put_vector.Goals.{then-high-lt256, else-high-lt256}

pub returns : goal.returns
returns c =
    let a = c.args in
    elim c.if-high-lt256.branch [
      | then-high-lt256 w ↦
          let l = lt-ltb a.high 256 w.if-high-lt256.true in
          let r : a.at + 1 + length a.bytes.now ≤ length a.out.now = rw l at c.requires.0 in
          rw l (
            omega (arith, w.from-is, w.put_byte-from.ensures.0, c.put.ensures.0),
            placed_more a.out.now a.at c.if-high-lt256.from (length a.bytes.now ∷ []) a.bytes.now (omega (arith, r)) (w.from-is ∙ w.put_byte-from.ensures.0) (w.out-is ∙ w.put_byte-from.ensures.1) c.put.ensures.1,
          )
      | else-high-lt256 w ↦
          let l = le-ltb a.high 256 w.if-high-lt256.false in
          let r : a.at + 2 + length a.bytes.now ≤ length a.out.now = rw l at c.requires.0 in
          rw l (
            omega (arith, w.from-is, w.put_pair-from.ensures.0, c.put.ensures.0),
            placed_more a.out.now a.at c.if-high-lt256.from (two_bytes (length a.bytes.now)) a.bytes.now (omega (arith, r)) (w.from-is ∙ w.put_pair-from.ensures.0) (w.out-is ∙ w.put_pair-from.ensures.1) c.put.ensures.1,
          )
    ]
