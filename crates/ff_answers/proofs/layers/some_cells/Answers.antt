use Rattle.ff_answers.proofs.Cells.{some_cells}
use Rattle.ff_answers.proofs.layers.some_cells.Goals as goal

pub returns : goal.returns
returns c = λ pattern faces folded h. some_cells h
