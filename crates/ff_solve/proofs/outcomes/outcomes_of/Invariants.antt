use Rattle.std.proofs.Common.{ℕ, ◌≡◌, length, slice_get, Some}
use Rattle.ff_propagate.specs.declared.parts.Part.{Part}
use Rattle.ff_propagate.specs.Facts.{value_at}
use Rattle.ff_report.specs.declared.parts.PartOutcome.{PartOutcome}
use Rattle.ff_solve.specs.Outcomes.{IsOutcome}
use Rattle.ff_solve.proofs.outcomes.outcomes_of.Given as goal

abbrev pub invariant-loop-k : goal.invariant-loop-k
invariant-loop-k l = record {
  as_many : length l.outcomes.items ≡ l.k;
  each : (k : ℕ) (part : Part) (outcome : PartOutcome) → slice_get l.parts k ≡ Some part → slice_get l.outcomes.items k ≡ Some outcome
      → IsOutcome l.case (value_at l.facts) l.budget part.vars outcome;
}
