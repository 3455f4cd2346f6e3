use Rattle.std.proofs.Common.{arith}
use Rattle.ff_lines.proofs.Gathers.{row_done}
use Rattle.ff_lines.proofs.gathering.take_row.Goals as goal

pub returns : goal.returns
returns c = row_done c.args.lines.now c.args.i c.loop-j.j c.loop-j.points.items c.args.full (omega (arith, c.loop-j-test.false)) c.loop-j.invariant
