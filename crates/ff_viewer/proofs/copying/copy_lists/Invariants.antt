use Rattle.std.proofs.Common.{◌≡◌, ◌≤◌, take, length}
use Rattle.std.specs.Vec.{vec_capacity}
use Rattle.ff_viewer.proofs.copying.copy_lists.Given as goal

abbrev pub invariant-loop-i : goal.invariant-loop-i
invariant-loop-i g l = (l.copied.items ≡ take l.i l.list) × (length l.list ≤ vec_capacity l.copied)
