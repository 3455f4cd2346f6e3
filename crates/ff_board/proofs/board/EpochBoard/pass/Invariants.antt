use Rattle.std.proofs.Common.{◌≡◌, ◌<◌, true, false}
use Rattle.ff_board.specs.Facts.{vars_in}
use Rattle.ff_board.specs.Rule.{set_below}
use Rattle.ff_board.specs.Swept.{QuietsOf}
use Rattle.ff_board.specs.Views.{GoesOn}
use Rattle.ff_board.proofs.board.EpochBoard.pass.Given as goal

abbrev pub invariant-loop-k : goal.invariant-loop-k
invariant-loop-k l = record {
  goes : GoesOn l.initial.seat l.seat;
  some : l.moved ≡ true → set_below (vars_in l.self.opening) l.initial.seat.view.seen < set_below (vars_in l.self.opening) l.seat.view.seen;
  quiet : l.moved ≡ false → QuietsOf l.self.opening l.due l.k l.initial.seat.view.seen l.seat.view.seen;
}
