-- The pairs of faces that stand together in a cell: those that overlap. This project's own.
use Rattle.std.specs.Prelude.{◌≡◌, ℕ, ◌<◌, ◌↔◌, List, length, slice_get, Some}
use Rattle.std.specs.List.{Contains}
use Rattle.ff_types.specs.declared.refusals.No.{No}
use Rattle.ff_types.specs.declared.refusals.No.TheVariants.{Refused, NoMemory}
use Rattle.ff_types.specs.declared.refusals.Refusal.TheVariants.{TooMany}
use Rattle.ff_types.specs.declared.refusals.What.TheVariants.{Pairs}
use Rattle.ff_types.specs.Pairs.{AreSorted}
use Rattle.ff_types.specs.Sheets.{Sheet}
use Rattle.ff_types.specs.Inside.{Overlap}
use Rattle.ff_cells.specs.declared.cell.Cell.{Cell}
use Rattle.ff_cells.specs.FaceSets.{HaveFaceSets}
use Rattle.ff_types.specs.declared.limits.TheConstants.{MOST_PAIRS}

-- both faces are over one of the cells
pub record AreTogether (cells : List Cell) (f h : ℕ) : Type 0 where
  pub cell : Cell
  pub there : Contains cells cell
  pub first : Contains cell.faces f
  pub second : Contains cell.faces h

-- the pair has a number
abbrev pub IsListed : List (ℕ × ℕ) → ℕ → ℕ → Type 0
IsListed list f h = (n : ℕ) × (slice_get list n ≡ Some (f, h))

-- The pairs of faces that stand together, in order. At most one list is so.
pub record ArePairsOf (cells : List Cell) (list : List (ℕ × ℕ)) : Type 0 where
  pub sorted : AreSorted list
  pub pairs_are : (f h : ℕ) → f < h → AreTogether cells f h ↔ IsListed list f h
  -- where the cells have the face sets of a sheet, they are its overlapping pairs
  pub overlap : (g : Sheet) → HaveFaceSets g cells → (f h : ℕ) → f < h → Overlap g f h ↔ IsListed list f h

-- Why there are no pairs: there are more than the limit, or memory was refused.
abbrev pub WhyNoPairs : List Cell → No → Type 0
WhyNoPairs cells NoMemory = Unit {0}
WhyNoPairs cells (Refused r) = (r ≡ TooMany Pairs MOST_PAIRS)
    × ((list : List (ℕ × ℕ)) × ArePairsOf cells list × (MOST_PAIRS < length list))
