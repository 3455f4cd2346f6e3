use Rattle.ff_solver.specs.Searches.{IsSearch}
use Rattle.ff_trials.proofs.systems.spend.Given as goal

abbrev pub invariant-loop : goal.invariant-loop
invariant-loop l = IsSearch l.search
