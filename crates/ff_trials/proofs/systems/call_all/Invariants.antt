use Rattle.ff_solver.specs.Searches.{IsSearch}
use Rattle.ff_trials.proofs.systems.call_all.Given as goal

abbrev pub invariant-loop-turns : goal.invariant-loop-turns
invariant-loop-turns l = IsSearch l.search
