use Rattle.std.proofs.Common.{ℕ, List, Option}
use Rattle.ff_tables.specs.declared.orders.Order.{Order}
use Rattle.ff_solver.specs.Paths.{IsPath, IsReady}
use Rattle.ff_solver.specs.Most.{most_of}
use Rattle.ff_solver.specs.Refuting.{HasNoSolution, IsAt}
use Rattle.ff_solver.proofs.refuting.Recorder.run.Given as goal

abbrev pub invariant-nodes : goal.invariant-nodes
invariant-nodes l = record {
  path : IsPath l.naming.own.now.vars l.naming.own.now.constraints l.self.path;
  ready : IsReady l.naming.own.now.constraints l.self.path.trail l.self.path.next;
  none : HasNoSolution l.naming.own.now.constraints l.naming.places.now l.self.path;
  noted : (value : ℕ → Option Order) → IsAt l.naming value l.fn.self.path l.fn.self.path.next l.fn.self.steps.items
      → IsAt l.naming value l.self.path l.self.path.next l.self.steps.items;
}

abbrev pub decreases-nodes : goal.decreases-nodes
decreases-nodes l = most_of l.naming.own.now.vars l.self.path
