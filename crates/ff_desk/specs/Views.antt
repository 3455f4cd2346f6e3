-- What contracts see of the value behind the door, and of what is lent by it and brought back. This project's own.
use Rattle.std.specs.Prelude.{ℕ, ◌+◌, Bool, List, [], ◌∷◌, Option}
use Rattle.ff_tables.specs.declared.givens.Given.{Given}
use Rattle.ff_types.specs.declared.cases.Case.{Case}
use Rattle.ff_propagate.specs.declared.facts.Fact.{Fact}
use Rattle.ff_board.specs.declared.opening.Opening.{Opening}
use Rattle.ff_board.specs.Views.{BoardView, SeatView}
use Rattle.ff_pages.specs.declared.pages.Pages.{Pages}
use Rattle.ff_journal.specs.declared.entries.Entry.{Entry}

-- what never changes: the case, the budget of turns, and for each viewer the length of its script
pub record BaseView : Type 0 where
  pub case : Case
  pub budget : ℕ
  pub lengths : List ℕ

-- a board, and the seat of it that stays at home
pub record HomeView : Type 0 where
  pub board : BoardView
  pub seat : SeatView

-- pages of an earlier board that are kept until those of a later one are laid, and the turns that searches had visited whose pages
-- were dropped
pub record EarlierView : Type 0 where
  pub pages : List Pages
  pub spent : ℕ

-- nothing is kept of an earlier board, and nothing was dropped
abbrev pub no_earlier : EarlierView
no_earlier = record { pages = []; spent = 0 }

-- The base; the journal; the givens and facts that are kept, and the board and seat that they are of, or none; the board of the least
-- unpublished epoch, if it is there; the pages of the last published board's parts, once one was asked for, and for each of these parts
-- whether it is demanded; and what is kept of an earlier board's pages.
pub record DeskView : Type 0 where
  pub base : BaseView
  pub journal : List Entry
  pub givens : List Given
  pub facts : List (Option Fact)
  pub home : Option HomeView
  pub present : Option HomeView
  pub pages : Option (List Pages)
  pub demanded : List Bool
  pub earlier : EarlierView

-- a board that is lent, of this epoch, with a seat of it
pub record LoanView : Type 0 where
  pub epoch : ℕ
  pub board : BoardView
  pub seat : SeatView

-- what was found on a board of this epoch, which was opened so
pub record FoundView : Type 0 where
  pub epoch : ℕ
  pub opening : Opening

-- all of the numbers together
abbrev pub total : List ℕ → ℕ
total [] = 0
total (n ∷ ns) = n + total ns
