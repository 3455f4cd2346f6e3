use Rattle.std.proofs.Common.{◌≡◌, sym, ap, ◌∙◌, subst, arith}
use Rattle.ff_board.specs.declared.seats.View.{View}
use Rattle.ff_board.specs.Rule.{IsLearned}
use Rattle.ff_board.specs.Views.{BoardView, SeatView}
use Rattle.ff_board.proofs.Steps.{splits}
use Rattle.ff_board.proofs.board.EpochBoard.split.Goals as goal

pub split_seat-requires : goal.split_seat-requires
split_seat-requires c = (
  ap (λ (x : SeatView). x.table) c.seat.view_is ∙ (c.requires.0 ∙ sym (ap (λ (x : BoardView). x.table) c.self.view_is)),
  omega (arith, c.self.invariant.1),
  splits _ _ _,
)
