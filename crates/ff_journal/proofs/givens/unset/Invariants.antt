use Rattle.std.proofs.Common.{◌≡◌, ◌≤◌, replicate, false}
use Rattle.std.specs.Vec.{vec_capacity}
use Rattle.ff_journal.proofs.givens.unset.Given as goal

abbrev pub invariant-loop-n : goal.invariant-loop-n
invariant-loop-n l = (l.flags.items ≡ replicate l._n false) × (l.pairs ≤ vec_capacity l.flags)
