use mir.Syntax.{w64}
use Rattle.ff_whole.proofs.Bounds.{read}
use Rattle.ff_drawn.proofs.BoxTests.{below_tells}
use Rattle.ff_drawn.proofs.segments.is_below.Goals as goal

pub returns : goal.returns
returns c =
    let r = c.requires in
    below_tells c.args.a.y c.args.b.y c.args.c.y c.args.d.y _ _ _ _ (read w64 r.a_near.y_below tt).is (read w64 r.b_near.y_below tt).is (read w64 r.c_near.y_below tt).is (read w64 r.d_near.y_below tt).is c.if-a-c.false c.if-a-d.false c.if-b-c.false
