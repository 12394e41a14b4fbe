-- What is put, with the lines still to come behind it, is the whole.
-- Assumes nothing.
use Rattle.std.proofs.Common.{[], ◌+◌, ◌-◌, arith}
use Rattle.comparing.specs.Comparison.{line}
use Rattle.comparing.specs.Steps.{lines_from}
use Rattle.comparing.proofs.Putting.{writing_all, writing_room, writing_more, writing_none}
use Rattle.comparing.proofs.Texts.{lines_more, lines_end}
use Rattle.comparing.proofs.lines.Page.put_alone.Goals as goal

pub loop-i-init : goal.loop-i-init
loop-i-init c = writing_all _ _ c.requires.room

pub put_line-requires : goal.put_line-requires
put_line-requires c =
    let i = c.loop-i.i in
    writing_room (line (i + 1) c.args.word.now []) (lines_from c.args.word.now (i + 1 + 1) (c.args.to - (i + 1))) c.loop-i.invariant (lines_more c.args.word.now i c.args.to (omega arith))

pub loop-i-preserved : goal.loop-i-preserved
loop-i-preserved c = writing_more c.loop-i.invariant (lines_more c.args.word.now c.loop-i.i c.args.to (omega arith)) c.put_line.ensures

pub returns : goal.returns
returns c = writing_none c.loop-i.invariant (lines_end _ c.loop-i.i _ (omega arith))
