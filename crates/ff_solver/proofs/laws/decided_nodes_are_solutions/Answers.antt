use Rattle.ff_propagate.specs.Closure.{Gives}
use Rattle.ff_propagate.specs.Facts.{value_at}
use Rattle.ff_propagate.proofs.Quiet.{closure_quiet}
use Rattle.ff_solver.proofs.Listing.{full_solves}
use Rattle.ff_solver.proofs.laws.decided_nodes_are_solutions.Goals as goal

pub returns : goal.returns
returns c vars cons facts part tried values fit board is calm have = record {
  as_many = have.as_many;
  passes = full_solves vars cons (value_at facts) part fit (closure_quiet cons (Gives board.0) (value_at facts) board.1.1) is
      tried values calm have;
}
