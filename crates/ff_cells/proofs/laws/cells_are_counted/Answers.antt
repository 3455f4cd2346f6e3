use Rattle.ff_cells.proofs.Counting.{counted_once}
use Rattle.ff_cells.proofs.laws.cells_are_counted.Goals as goal

pub returns : goal.returns
returns c = λ pattern faces folded h places others a s. counted_once h places others a s
