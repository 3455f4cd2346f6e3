use Rattle.ff_cut.proofs.OneAnswer.{some_drawing}
use Rattle.ff_cut.proofs.laws.some_drawing.Goals as goal

pub returns : goal.returns
returns c = some_drawing c.drawing_is_one.ensures c.lines_are_one.ensures
