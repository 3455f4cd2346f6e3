-- What the types of loans and finds keep. This project's own.
use Rattle.std.specs.Prelude.{◌≡◌, ℕ, ◌+◌, ◌<◌, ◌≤◌, List, Option, Some}
use Rattle.std.specs.Arc.{arc_value}
use Rattle.ff_tables.specs.declared.givens.Given.{Given}
use Rattle.ff_propagate.specs.declared.facts.Fact.{Fact}
use Rattle.ff_propagate.specs.Facts.{fact_at}
use Rattle.ff_propagate.specs.FactRule.{MeetsFactRule}
use Rattle.ff_propagate.specs.Agreeing.{Agree}
use Rattle.ff_refute.specs.Givens.{AreGivens}
use Rattle.ff_board.specs.Answer.{fact_seen}
use Rattle.ff_board.specs.Facts.{vars_in, cons_in}
use Rattle.ff_board.specs.Standing.{top_level}
use Rattle.ff_board.specs.Views.{BoardView, SeatView, IsAt}
use Rattle.ff_journal.specs.declared.entries.Outcome.{Outcome}
use Rattle.ff_journal.specs.Shown.{AreOfBoard}
use Rattle.ff_told.specs.Ends.{IsEndOf}

-- the seat is of the board, whose givens are the case's starts followed by pins, and agree
pub record IsLoan (board : BoardView) (seat : SeatView) : Type 0 where
  pub seat_at : IsAt board seat
  pub givens : AreGivens (arc_value board.opening.case) board.opening.givens
  pub agree : Agree board.opening.givens

-- The facts are exactly those that the seat has seen, by the fact rule under the board's givens, and of low levels. The outcome is
-- what the givens come to, and where it is a board, that of these facts.
pub record IsFound (board : BoardView) (seat : SeatView) (gs : List Given) (fs : List (Option Fact)) (o : Outcome) : Type 0 where
  pub seat_at : IsAt board seat
  pub givens : gs ≡ board.opening.givens
  pub agree : Agree gs
  pub seen : (v : ℕ) → v < vars_in board.opening → fact_at fs v ≡ fact_seen seat.view v
  pub rule : MeetsFactRule (vars_in board.opening) (cons_in board.opening) gs fs
  pub low : (v : ℕ) (f : Fact) → fact_at fs v ≡ Some f → f.level ≤ top_level board.opening.facts + vars_in board.opening
  pub end : IsEndOf (arc_value board.opening.case) gs o
  pub shown : AreOfBoard o fs
