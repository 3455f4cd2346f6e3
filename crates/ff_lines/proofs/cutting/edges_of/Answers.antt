use Rattle.std.proofs.Common.{◌+◌, arith}
use Rattle.ff_lines.proofs.Edging.{all_edges, no_edges}
use Rattle.ff_lines.proofs.cutting.edges_of.Goals as goal

pub loop-a-init : goal.loop-a-init
loop-a-init c = (rw (c.new.ensures.items, c.new-2.ensures.items) (no_edges c.args.lines.now c.args.points.now), c.in_ok-cursors.ensures)

pub returns : goal.returns
returns c = all_edges c.args.lines.now c.args.points.now c.loop-a.a (c.loop-a.a + 1) c.loop-a.drawn.edges.items c.loop-a.drawn.marks.items c.loop-a.invariant.0 (omega (arith, c.loop-a-test.false))
