use Rattle.std.proofs.Common.{ℕ, ◌<◌}
use Rattle.ff_cells.specs.FaceSets.{IsNextFace}
use Rattle.ff_cells.proofs.face_lists.is_face_list.Given as goal

abbrev pub invariant-loop-n : goal.invariant-loop-n
invariant-loop-n l = (k : ℕ) → k < l.n → IsNextFace l.faces k
