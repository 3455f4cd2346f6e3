use Rattle.std.proofs.Common.{◌≡◌, ℕ, ◌<◌, ◌≤◌, length, slice_get, slice_index, Some}
use Rattle.std.specs.Vec.{vec_capacity}
use Rattle.ff_tables.specs.declared.terms.Constraint.{Constraint}
use Rattle.ff_propagate.specs.Facts.{value_at}
use Rattle.ff_parts.specs.Marks.{IsMark}
use Rattle.ff_parts.proofs.marking.marks.Given as goal

abbrev pub invariant-loop-c : goal.invariant-loop-c
invariant-loop-c l = (length l.marks.items ≡ l.c) × (length l.constraints ≤ vec_capacity l.marks)
    × ((d : ℕ) (con : Constraint) → d < l.c → slice_get l.system.constraints d ≡ Some con
    → IsMark (value_at l.facts) l.part_of con (slice_index l.marks.items d))
