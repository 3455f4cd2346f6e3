use Rattle.std.proofs.Common.{arith}
use Rattle.std.proofs.lemmas.Option.{slice_get-get_or}
use Rattle.ff_lines.proofs.Gathers.{row_done}
use Rattle.ff_lines.proofs.Swept.{row_east}
use Rattle.ff_lines.proofs.sweeping.sweep_row.Goals as goal

pub returns-then-is_east : goal.returns-then-is_east
returns-then-is_east c = row_east c.args.lines.now c.requires.proper c.requires.from_west c.args.i c.loop-j.j _ _
    (slice_get-get_or c.args.lines.now c.args.i _ c.requires.within) (slice_get-get_or c.args.lines.now c.loop-j.j _ c.loop-j-test.true)
    (c.is_east.ensures.0 c.if-is_east.true) c.loop-j.points.items c.args.full c.loop-j.invariant

pub returns : goal.returns
returns c = row_done c.args.lines.now c.args.i c.loop-j.j c.loop-j.points.items c.args.full (omega (arith, c.loop-j-test.false)) c.loop-j.invariant
