-- Why a sweep ends before its last slab: there are too many cells, or memory was refused.
-- For the proofs of this crate alone.
use Rattle.std.specs.Prelude.{ℕ, ℤ, ◌≡◌, ◌+◌, ◌<◌, ◌≤◌, false, List, ◌++◌, length, filter}
use Rattle.ff_types.specs.declared.refusals.No.{No}
use Rattle.ff_types.specs.declared.refusals.No.TheVariants.{Refused, NoMemory}
use Rattle.ff_types.specs.declared.refusals.Refusal.TheVariants.{TooMany}
use Rattle.ff_types.specs.declared.refusals.What.TheVariants.{Cells}
use Rattle.ff_whole.specs.declared.places.Place.{Place}
use Rattle.ff_types.specs.declared.limits.TheConstants.{MOST_CELLS}
use Rattle.ff_cells.specs.declared.bars.Bar.{Bar}
use Rattle.ff_cells.specs.declared.cell.Cell.{Cell}
use Rattle.ff_cells.specs.declared.found.Found.{Found}
use Rattle.ff_cells.specs.Before.{x_before}
use Rattle.ff_cells.specs.Strip.{spans_strip, at_x, x_at, bars_of_strip, IsCells}
use Rattle.ff_cells.specs.Swept.{IsSwept}
use Rattle.ff_cells.specs.Tally.{IsTally, Adds, StaysFew}

-- the cells of the first slabs of the strip are too many, with those found before
abbrev pub IsStopped : List Bar → Place → Place → Found → No → Type 0
IsStopped bars from limit old NoMemory = Unit {0}
IsStopped bars from limit old (Refused r) = (r ≡ TooMany Cells MOST_CELLS) × ((all : List Cell)
    → IsTally all old
    → (n : ℕ) × (last : Place) × (more : List Cell) × IsSwept bars from limit n last more
    × (MOST_CELLS < length (all ++ more)))

-- the cells of the strip between two x are found besides
abbrev pub IsSweptBetween : List Bar → ℤ → ℤ → Found → Found → Type 0
IsSweptBetween bars a c old new = (n : ℕ) × (last : Place) × (more : List Cell) × Adds old more new
    × StaysFew old new × (x_before last (at_x c) ≡ false)
    × IsSwept (filter (spans_strip a c) bars) (at_x a) (at_x c) n last more

-- the cells of the first strips, and of the first slabs of the next one
pub record AreBegun (bars : List Bar) (xs : List ℤ) (cells : List Cell) : Type 0 where
  pub strips : ℕ
  pub within : strips + 1 < length xs
  pub before : List Cell
  pub more : List Cell
  pub cells_are : cells ≡ before ++ more
  pub done : IsCells bars xs strips before
  pub slabs : ℕ
  pub last : Place
  pub begun : IsSwept (bars_of_strip bars xs strips) (at_x (x_at xs strips)) (at_x (x_at xs (strips + 1)))
      slabs last more

-- the cells of the first n strips are found, and aren't too many
abbrev pub AreSwept : List Bar → List ℤ → ℕ → Found → Type 0
AreSwept bars xs n found = (all : List Cell) × IsTally all found × IsCells bars xs n all
    × (found.count ≤ MOST_CELLS)

-- why no cells are given: there are too many, or no memory
abbrev pub AreStopped : List Bar → List ℤ → No → Type 0
AreStopped bars xs NoMemory = Unit {0}
AreStopped bars xs (Refused r) = (r ≡ TooMany Cells MOST_CELLS)
    × ((cells : List Cell) × AreBegun bars xs cells × (MOST_CELLS < length cells))
