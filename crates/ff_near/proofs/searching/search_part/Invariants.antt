use Rattle.std.proofs.Common.{◌-◌, ◌*◌, length, List}
use Rattle.ff_tables.specs.declared.orders.Order.{Order}
use Rattle.ff_solve.proofs.Searching.{HasGathered}
use Rattle.ff_near.specs.Distance.{cost}
use Rattle.ff_near.specs.Progress.{HasLeast}
use Rattle.ff_near.proofs.searching.search_part.Given as goal

abbrev pub invariant-search : goal.invariant-search
invariant-search l = (solutions : List (List Order)) × HasGathered l.case.system.constraints l.facts l.part.vars l.budget l.search solutions
    × HasLeast (cost l.case.pairs l.list l.part.vars) solutions l.least.count l.least.cost l.least.best.items l.least.first

abbrev pub decreases-search : goal.decreases-search
decreases-search l = l.budget - length l.search.part.vars * l.search.visited
