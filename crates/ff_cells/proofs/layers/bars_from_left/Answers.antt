use Rattle.ff_cells.proofs.Reached.{bars_moved}
use Rattle.ff_cells.proofs.layers.bars_from_left.Goals as goal

pub returns-clause-are : goal.returns-clause-are
returns-clause-are c =
    bars_moved _ _ _ _ _ c.sort_from_left.ensures.same c.in_ok-bars.ensures
