use Rattle.std.proofs.Common.{◌≤◌, length, drop}
use Rattle.std.specs.List.{All}
use Rattle.ff_refute.specs.Trimming.{IsLean, IsKeptOf}
use Rattle.ff_refute.proofs.trimming.trimmed.Given as goal

abbrev pub invariant-loop-k : goal.invariant-loop-k
invariant-loop-k l = (l.k ≤ length l.steps) × IsKeptOf l.system.vars l.system.constraints (drop l.k l.steps) l.kept.items
    × All (IsLean l.system.constraints) l.kept.items

abbrev pub decreases-loop-k : goal.decreases-loop-k
decreases-loop-k l = l.k
