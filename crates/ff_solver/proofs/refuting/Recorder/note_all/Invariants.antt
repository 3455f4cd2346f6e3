use Rattle.std.proofs.Common.{◌≡◌, ℕ, List, Option}
use Rattle.ff_tables.specs.declared.orders.Order.{Order}
use Rattle.ff_solver.specs.Refuting.{IsNoted}
use Rattle.ff_solver.proofs.refuting.Recorder.note_all.Given as goal

abbrev pub invariant-loop-number : goal.invariant-loop-number
invariant-loop-number l = record {
  path : l.self.path ≡ l.fn.self.path;
  noted : (value : ℕ → Option Order) (stack : List (List (ℕ × Order)))
      → IsNoted l.naming value l.fn.self.path.trail stack l.fn.self.steps.items l.from
      → IsNoted l.naming value l.fn.self.path.trail stack l.self.steps.items l.number;
}
