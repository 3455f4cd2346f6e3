use Rattle.std.proofs.Common.{ℕ, ◌<◌, ◌≤◌, ◌≡◌, Some, slice_get}
use Rattle.std.specs.List.{All}
use Rattle.ff_types.specs.declared.limits.TheConstants.{MOST_FACES}
use Rattle.ff_cells.specs.declared.cell.Cell.{Cell}
use Rattle.ff_trans.proofs.width.width.Given as goal

abbrev pub invariant-loop-k : goal.invariant-loop-k
invariant-loop-k l = record { few : l.width ≤ MOST_FACES; faces : (i : ℕ) (c : Cell) → i < l.k → slice_get l.cells i ≡ Some c → All (λ f. f < l.width) c.faces }
