-- The steps on the way to the case.
use Rattle.std.proofs.Common.{ℕ, ◌≤◌, List, length, Result, Ok, Err, IfOk}
use Rattle.std.specs.List.{All}
use Rattle.ff_types.specs.declared.patterns.Pattern.{Pattern}
use Rattle.ff_types.specs.declared.cites.Listed.{Listed}
use Rattle.ff_types.specs.declared.refusals.No.{No}
use Rattle.ff_types.specs.declared.faces.Faces.{Faces}
use Rattle.ff_types.specs.declared.faces.Folded.{Folded}
use Rattle.ff_types.specs.FoldedPatterns.{IsFoldedPattern}
use Rattle.ff_types.specs.Sheets.{Sheet, sheet_of}
use Rattle.ff_cells.specs.declared.cell.Cell.{Cell}
use Rattle.ff_cells.specs.SlabCells.{HasFewCells}
use Rattle.ff_cells.specs.FaceSets.{HaveFaceSets, IsFaceList}
use Rattle.ff_trans.specs.Triples.{AreTriples}
use Rattle.ff_types.specs.declared.limits.TheConstants.{MOST_CONSTRAINTS}
use Rattle.ff_problem.specs.Layers.{AreFewCells, AreFewPairs, AreLayers}

pub cells_made : (p : Pattern) (faces : Faces) (folded : Folded) (r : Result (List Cell) No) → IsFoldedPattern p faces folded
    → IfOk r (λ _. (q : Pattern) → IsFoldedPattern q faces folded → HasFewCells (sheet_of q faces folded))
    → IfOk r (λ cells. (q : Pattern) → IsFoldedPattern q faces folded → HaveFaceSets (sheet_of q faces folded) cells) → IfOk r (All IsFaceList)
    → IfOk r (AreFewCells (sheet_of p faces folded))
cells_made p faces folded (Ok cells) h a b c = record { few_cells = a p h; sets = b p h; face_lists = c }
cells_made p faces folded (Err n) h a b c = tt

pub triples_made : (g : Sheet) (cells : List Cell) (pairs : List (ℕ × ℕ)) (r : Result (List Listed) No) → AreFewCells g cells → AreFewPairs g cells pairs → IfOk r (AreTriples cells pairs)
    → IfOk r (λ list. length list ≤ MOST_CONSTRAINTS) → IfOk r (AreLayers g pairs)
triples_made g cells pairs (Ok list) few two a b = record {
  few_cells = few.few_cells;
  sorted = two.are.sorted;
  overlap = two.are.overlap g few.sets;
  few_pairs = two.few;
  cells = cells;
  sets = few.sets;
  triples = a;
  few = b;
}
triples_made g cells pairs (Err n) few two a b = tt
