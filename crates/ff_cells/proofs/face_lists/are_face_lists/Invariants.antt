use Rattle.std.proofs.Common.{ℕ, ◌<◌, slice_index_or}
use Rattle.ff_cells.specs.declared.cell.Cell.{Cell}
use Rattle.ff_cells.specs.FaceSets.{IsFaceList}
use Rattle.ff_cells.proofs.face_lists.are_face_lists.Given as goal

abbrev pub invariant-loop-k : goal.invariant-loop-k
invariant-loop-k l = (i : ℕ) (d : Cell) → i < l.k → IsFaceList (slice_index_or l.cells i d)
