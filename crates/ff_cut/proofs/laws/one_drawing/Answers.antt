use Rattle.ff_cut.proofs.OneAnswer.{one_drawing}
use Rattle.ff_cut.proofs.laws.one_drawing.Goals as goal

pub returns : goal.returns
returns c = one_drawing c.drawing_is_one.ensures c.lines_are_one.ensures
