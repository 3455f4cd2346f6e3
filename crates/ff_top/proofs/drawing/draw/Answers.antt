use Rattle.ff_top.proofs.Modes.{drawing_by}
use Rattle.ff_top.proofs.drawing.draw.Goals as goal

pub returns : goal.returns
returns c = drawing_by _ _ _ _ c.status_where.ensures c.in_ok-answer.ensures
