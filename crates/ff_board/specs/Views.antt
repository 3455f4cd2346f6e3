-- What contracts see of boards and seats.
use Rattle.std.specs.Prelude.{◌≡◌, ◌-◌, ◌^◌, ◌<◌, ◌≤◌, List, length, Option}
use Rattle.std.specs.Arc.{arc_value}
use Rattle.atomic_table.specs.Seated.{TableId}
use Rattle.ff_tables.specs.declared.givens.Given.{Given}
use Rattle.ff_types.specs.declared.cases.Case.{Case}
use Rattle.ff_propagate.specs.declared.facts.Fact.{Fact}
use Rattle.ff_board.specs.declared.opening.Opening.{Opening}
use Rattle.ff_board.specs.declared.seats.View.{View}
use Rattle.ff_board.specs.Facts.{Grows}
use Rattle.ff_board.specs.Standing.{top_level}

-- a board: its own table, and what it was opened with
pub record BoardView : Type 0 where
  pub table : TableId
  pub opening : Opening

-- a seat: the table of its board, and what it knows
pub record SeatView : Type 0 where
  pub table : TableId
  pub view : View

-- the seat is at this board
abbrev pub IsAt : BoardView → SeatView → Type 0
IsAt b s = (s.table ≡ b.table) × (s.view.opening ≡ b.opening)

-- the seat is at the same board, nothing that it had seen is lost, and its number of looks is no smaller
abbrev pub GoesOn : SeatView → SeatView → Type 0
GoesOn old new = (new.table ≡ old.table) × (new.view.opening ≡ old.view.opening)
    × Grows old.view.seen new.view.seen × (old.view.looks ≤ new.view.looks)

-- a board was opened with this case, these givens and these facts
abbrev pub IsOpenedWith : Case → List Given → List (Option Fact) → Opening → Type 0
IsOpenedWith case gs fs o = (arc_value o.case ≡ case) × (o.givens ≡ gs) × (o.facts ≡ fs)

-- few enough for the words of a board: at most 2^18 variables and 2^22 constraints, fewer than 2^22 givens, and
-- levels below 2^29 - 2^18
pub record AreFew (case : Case) (gs : List Given) (fs : List (Option Fact)) : Type 0 where
  pub vars : case.system.vars ≤ 2 ^ 18
  pub constraints : length case.system.constraints ≤ 2 ^ 22
  pub givens : length gs < 2 ^ 22
  pub low : top_level fs < 2 ^ 29 - 2 ^ 18
