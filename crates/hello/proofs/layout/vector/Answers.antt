-- A vector: its length, and so many bytes.
-- Assumes nothing.
use Rattle.std.proofs.Common.{rules, arith}
use Rattle.hello.proofs.Vectors.{cuts_short, cuts_no, cuts_yes, Stated, stated_one, stated_two}
use Rattle.hello.proofs.layout.vector.Goals as goal
use Rattle.hello.proofs.layout.vector.Goals.{then-high-lt256, else-high-lt256, then-length-low-via-then-length-low, then-length-low-via-else-length-low+then-high-length, then-length-low-via-else-length-low+else-high-length+then-message-start}

pub returns-then-message-at : goal.returns-then-message-at
returns-then-message-at c =
    let a = c.args in
    let m = a.message.now in
    let v = c.if-high-lt256.width in
    let s : Stated m a.at a.high v.0 v.1 = elim c.if-high-lt256.branch [ then-high-lt256 w ↦ rw w.width-is (stated_one _ _ _ _ w.if-high-lt256.true w.byte.ensures.0) | else-high-lt256 w ↦ rw w.width-is (stated_two _ _ _ _ w.if-high-lt256.false w.pair.ensures.0) ] in
    cuts_short _ a.low a.high m a.at (omega arith) (rw (← s.width) (omega arith))

pub returns-then-length-low : goal.returns-then-length-low
returns-then-length-low c =
    let a = c.args in
    let m = a.message.now in
    let v = c.if-high-lt256.width in
    let s : Stated m a.at a.high v.0 v.1 = elim c.if-high-lt256.branch [ then-high-lt256 w ↦ rw w.width-is (stated_one _ _ _ _ w.if-high-lt256.true w.byte.ensures.0) | else-high-lt256 w ↦ rw w.width-is (stated_two _ _ _ _ w.if-high-lt256.false w.pair.ensures.0) ] in
    rw (← s.width)
    (cuts_no v.0 a.low a.high m a.at v.1 (s.number (omega arith)) (omega arith) _ (search rules)
    (λ b. elim c.then-length-low.branch [ then-length-low-via-then-length-low w ↦ omega arith | then-length-low-via-else-length-low+then-high-length w ↦ omega arith | then-length-low-via-else-length-low+else-high-length+then-message-start w ↦ omega arith ]))

pub returns : goal.returns
returns c =
    let a = c.args in
    let m = a.message.now in
    let v = c.if-high-lt256.width in
    let s : Stated m a.at a.high v.0 v.1 = elim c.if-high-lt256.branch [ then-high-lt256 w ↦ rw w.width-is (stated_one _ _ _ _ w.if-high-lt256.true w.byte.ensures.0) | else-high-lt256 w ↦ rw w.width-is (stated_two _ _ _ _ w.if-high-lt256.false w.pair.ensures.0) ] in
    rw (← s.width) (cuts_yes v.0 a.low a.high m a.at v.1 (s.number (omega arith)) (omega arith) (omega arith) (omega arith) (omega arith))
