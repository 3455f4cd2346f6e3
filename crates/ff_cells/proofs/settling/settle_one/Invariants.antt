use Rattle.std.proofs.Common.{◌≡◌, length}
use Rattle.std.specs.List.Sorted.{IsPermutation}
use Rattle.ff_cells.proofs.settling.settle_one.Given as goal

abbrev pub invariant-loop-n : goal.invariant-loop-n
invariant-loop-n l = record { same : IsPermutation l.fn.v l.v; long : length l.v ≡ length l.fn.v }
