use Rattle.std.proofs.Common.{◌-◌, ◌*◌, length}
use Rattle.ff_solve.proofs.Searching.{HasGathered}
use Rattle.ff_solve.proofs.outcomes.outcome_of.Given as goal

abbrev pub invariant-search : goal.invariant-search
invariant-search l = HasGathered l.case.system.constraints l.facts l.part.vars l.budget l.search l.solutions.items

abbrev pub decreases-search : goal.decreases-search
decreases-search l = l.budget - length l.search.part.vars * l.search.visited
