use Rattle.std.proofs.Common.{◌≡◌, ◌-◌}
use Rattle.ff_board.specs.Facts.{Grows, vars_in}
use Rattle.ff_board.specs.Rule.{set_below}
use Rattle.ff_board.specs.Views.{GoesOn}
use Rattle.ff_board.proofs.board.EpochBoard.sweep.Given as goal

abbrev pub invariant-sweeps : goal.invariant-sweeps
invariant-sweeps l = record {
  goes : GoesOn l.initial.seat l.seat;
}

abbrev pub decreases-sweeps : goal.decreases-sweeps
decreases-sweeps l = vars_in l.self.opening - set_below (vars_in l.self.opening) l.seat.view.seen
