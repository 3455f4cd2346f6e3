use Rattle.std.proofs.Common.{arith, refl}
use Rattle.ff_lines.proofs.Edging.{row_of_edges}
use Rattle.ff_lines.proofs.HeadLists.{head_is}
use Rattle.ff_lines.proofs.Patterns.{proper_at}
use Rattle.ff_lines.proofs.cutting.push_heads.Goals as goal

pub push_head-requires-clause-head : goal.push_head-requires-clause-head
push_head-requires-clause-head c = head_is c.args.lines.now (proper_at c.args.lines.now c.requires.proper) c.requires.none c.args.points.now c.requires.vertices c.args.a c.loop-b.b c.args.heads.now c.requires.heads
    c.loop-b-test.true _ refl

pub returns : goal.returns
returns c = row_of_edges c.args.lines.now c.args.points.now c.args.a c.loop-b.b c.loop-b.drawn.edges.items c.loop-b.drawn.marks.items c.loop-b.invariant (omega (arith, c.loop-b-test.false))
