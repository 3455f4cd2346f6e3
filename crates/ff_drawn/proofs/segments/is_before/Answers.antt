use mir.Syntax.{w64}
use Rattle.ff_whole.proofs.Bounds.{read}
use Rattle.ff_drawn.proofs.BoxTests.{below_tells}
use Rattle.ff_drawn.proofs.segments.is_before.Goals as goal

pub returns : goal.returns
returns c =
    let r = c.requires in
    below_tells c.args.a.x c.args.b.x c.args.c.x c.args.d.x _ _ _ _ (read w64 r.a_near.x_below tt).is (read w64 r.b_near.x_below tt).is (read w64 r.c_near.x_below tt).is (read w64 r.d_near.x_below tt).is c.if-a-c.false c.if-a-d.false c.if-b-c.false
