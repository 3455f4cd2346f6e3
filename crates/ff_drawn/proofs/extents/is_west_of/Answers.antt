use mir.Syntax.{w64}
use Rattle.ff_whole.proofs.Bounds.{read}
use Rattle.ff_drawn.proofs.EdgeExtents.{less_tells}
use Rattle.ff_drawn.proofs.extents.is_west_of.Goals as goal

pub returns : goal.returns
returns c = let r = c.requires in less_tells c.args.p.x c.args.q.x _ _ (read w64 r.p_near.x_below tt).is (read w64 r.q_near.x_below tt).is
