use Rattle.ff_solver.specs.Searches.{IsRunning}
use Rattle.ff_solver.proofs.state.Search.run.Given as goal

abbrev pub invariant-nodes : goal.invariant-nodes
invariant-nodes l = IsRunning l.fn.turns l.fn.self l.self l.left

abbrev pub decreases-nodes : goal.decreases-nodes
decreases-nodes l = l.left
