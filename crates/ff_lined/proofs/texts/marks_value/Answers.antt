use Rattle.std.proofs.Common.{arith}
use Rattle.ff_lined.specs.Texts.{mark_data}
use Rattle.ff_lined.proofs.Written.{written_all, written_more}
use Rattle.ff_lined.proofs.texts.marks_value.Goals as goal

pub loop-i-preserved : goal.loop-i-preserved
loop-i-preserved c = rw c.in_ok-push.ensures.items (written_more mark_data c.args.marks.now c.loop-i.i _ c.loop-i.list.items c.in_ok-mark_value.field-0 c.loop-i-test.true c.loop-i.invariant c.in_ok-mark_value.ensures)

pub returns : goal.returns
returns c = written_all mark_data c.args.marks.now c.loop-i.i c.loop-i.list (omega (arith, c.loop-i-test.false)) c.loop-i.invariant
