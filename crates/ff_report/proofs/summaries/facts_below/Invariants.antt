use Rattle.std.proofs.Common.{◌≡◌, ◌≤◌}
use Rattle.ff_propagate.specs.Facts.{value_at}
use Rattle.ff_report.specs.Summaries.{decided_below}
use Rattle.ff_report.proofs.summaries.facts_below.Given as goal

abbrev pub invariant-loop-var : goal.invariant-loop-var
invariant-loop-var l = record {
  is : l.count ≡ decided_below (value_at l.facts) l.var;
  few : l.count ≤ l.var;
}
