use Rattle.std.proofs.Common.{◌≡◌, ◌-◌, length}
use Rattle.ff_board.specs.Facts.{Grows, vars_in}
use Rattle.ff_board.specs.Rule.{words_set}
use Rattle.ff_board.specs.Views.{GoesOn}
use Rattle.ff_board.proofs.board.EpochBoard.rounds.Given as goal

abbrev pub invariant-rounds : goal.invariant-rounds
invariant-rounds l = record {
  goes : GoesOn l.initial.seat l.seat;
  covers : Grows l.words l.seat.view.seen;
}

abbrev pub decreases-rounds : goal.decreases-rounds
decreases-rounds l = vars_in l.self.opening - words_set l.words
