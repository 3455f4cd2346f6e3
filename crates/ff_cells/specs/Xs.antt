-- The x of points, from left to right.
-- For the proofs of this crate alone.
use Rattle.std.specs.Prelude.{ℕ, ℤ, Bool, List, map, length, ◌-◌, ◌≤◌, IsSorted}
use Rattle.std.specs.Ordering.{int_cmp}
use Rattle.std.specs.List.Sorted.{IsPermutation}
use Rattle.ff_whole.specs.declared.points.Pt.{Pt}
use Rattle.ff_cells.specs.declared.bars.Bar.{Bar}
use Rattle.ff_cells.specs.declared.cell.Cell.{Cell}
use Rattle.ff_cells.specs.declared.found.Found.{Found}
use Rattle.ff_types.specs.declared.limits.TheConstants.{MOST_CELLS}
use Rattle.ff_cells.specs.Steps.{AreBars}
use Rattle.ff_cells.specs.Strip.{IsCells}
use Rattle.ff_cells.specs.Tally.{IsTally}

-- the x of all points, from west to east
pub record AreXs (points : List Pt) (xs : List ℤ) : Type 0 where
  pub same : IsPermutation (map (λ p. p.x) points) xs
  pub sorted : IsSorted int_cmp xs

-- all cells of the sheet with these images, rings and flags are found
pub record AreFound (points : List Pt) (rings : List (List ℕ)) (up : List Bool) (found : Found) : Type 0 where
  pub bars : List Bar
  pub xs : List ℤ
  pub cells : List Cell
  pub bars_are : AreBars points rings up bars
  pub xs_are : AreXs points xs
  pub cells_are : IsCells bars xs (length xs - 1) cells
  pub tally : IsTally cells found
  pub few : found.count ≤ MOST_CELLS
