-- What the layers of a folded sheet give on the way to its case. This project's own.
-- For the proofs of this crate alone.
use Rattle.std.specs.Prelude.{◌≡◌, ℕ, ◌<◌, ◌≤◌, ◌↔◌, List, ◌++◌, length, slice_get, Some}
use Rattle.std.specs.List.{All}
use Rattle.ff_types.specs.declared.cites.Listed.{Listed}
use Rattle.ff_types.specs.declared.cases.Case.{Case}
use Rattle.ff_types.specs.Pairs.{AreSorted}
use Rattle.ff_types.specs.Sheets.{Sheet}
use Rattle.ff_types.specs.Inside.{Overlap}
use Rattle.ff_types.specs.Cites.{AreSmall}
use Rattle.ff_types.specs.Cases.{IsCaseOf}
use Rattle.ff_cells.specs.declared.cell.Cell.{Cell}
use Rattle.ff_cells.specs.FaceSets.{HaveFaceSets, IsFaceList}
use Rattle.ff_pairs.specs.Together.{ArePairsOf}
use Rattle.ff_trans.specs.Triples.{AreTriples}
use Rattle.ff_tacos.specs.Tacos.{AreTacos}
use Rattle.ff_types.specs.declared.limits.TheConstants.{MOST_PAIRS}
use Rattle.ff_types.specs.declared.limits.TheConstants.{MOST_CONSTRAINTS}
use Rattle.ff_cells.specs.SlabCells.{HasFewCells}
use Rattle.ff_problem.specs.Limits.{IsWithinLimits}

-- cells with the face sets of the sheet, within the limits
pub record AreFewCells (g : Sheet) (cells : List Cell) : Type 0 where
  pub few_cells : HasFewCells g
  pub sets : HaveFaceSets g cells
  pub face_lists : All IsFaceList cells

-- the pairs that stand together in these cells
pub record AreFewPairs (g : Sheet) (cells : List Cell) (pairs : List (ℕ × ℕ)) : Type 0 where
  pub are : ArePairsOf cells pairs
  pub few : length pairs ≤ MOST_PAIRS

-- all overlapping pairs, and all transitivity constraints
pub record AreLayers (g : Sheet) (pairs : List (ℕ × ℕ)) (list : List Listed) : Type 0 where
  pub few_cells : HasFewCells g
  pub sorted : AreSorted pairs
  pub overlap : (f h : ℕ) → f < h → Overlap g f h ↔ ((n : ℕ) × (slice_get pairs n ≡ Some (f, h)))
  pub few_pairs : length pairs ≤ MOST_PAIRS
  pub cells : List Cell
  pub sets : HaveFaceSets g cells
  pub triples : AreTriples cells pairs list
  pub few : length list ≤ MOST_CONSTRAINTS

-- all constraints
pub record AreConstraints (g : Sheet) (pairs : List (ℕ × ℕ)) (list : List Listed) : Type 0 where
  pub triples : List Listed
  pub tacos : List Listed
  pub layers : AreLayers g pairs triples
  pub are : AreTacos g pairs tacos
  pub both : list ≡ triples ++ tacos
  pub few : length list ≤ MOST_CONSTRAINTS

-- the case of a sheet within the limits, whose cites have small places
pub record IsCaseWithin (g : Sheet) (case : Case) : Type 0 where
  pub is : IsCaseOf g case
  pub small : AreSmall case.cites
  pub within : IsWithinLimits g
