use Rattle.std.proofs.Common.{rules}
use Rattle.ff_cells.proofs.Fractions.{sorted_from_sort_by}
use Rattle.ff_cells.proofs.Reached.{left_total}
use Rattle.ff_cells.proofs.reaching.sort_from_left.Goals as goal

pub returns-clause-sorted : goal.returns-clause-sorted
returns-clause-sorted c =
    sorted_from_sort_by _ _ _ left_total _ _ c.sort_by.ensures.sorted (λ a r f k. (search rules, search rules))
