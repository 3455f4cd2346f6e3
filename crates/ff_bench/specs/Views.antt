-- What contracts see of a workbench and of the passes of viewers and workers. This project's own.
use Rattle.std.specs.Prelude.{◌≡◌, ℕ, ◌+◌, ◌-◌, ◌<◌, ◌≤◌, List, length, slice_index, Option, Some}
use Rattle.atomic_table.specs.Seated.{TableId}
use Rattle.ff_journal.specs.declared.entries.Entry.{Entry}
use Rattle.ff_journal.specs.Journals.{IsLegal, commands_of}
use Rattle.ff_door.specs.Views.{DoorView, SeatView, IsAt}
use Rattle.ff_desk.specs.Views.{BaseView}

-- a workbench: its door, whose base is the case, the budget and the lengths of the scripts, and how many hands its crew has
pub record BenchView : Type 0 where
  pub door : DoorView BaseView
  pub hands : ℕ

-- a viewer's pass: its door's table and base, the viewer, the length of its script, and the entries that it has seen
pub record PassView : Type 0 where
  pub table : TableId
  pub base : Option BaseView
  pub viewer : ℕ
  pub commands : ℕ
  pub seen : List Entry

-- a worker's pass: its door's table and base, the number of its seat, its hand and how many hands there are, the entries that it has
-- seen, and how many turns at the door it has had
pub record WorkerView : Type 0 where
  pub table : TableId
  pub base : Option BaseView
  pub number : ℕ
  pub hand : ℕ
  pub of : ℕ
  pub seen : List Entry
  pub turns : ℕ

-- the seat is at the bench, and what it has seen is legal
pub record IsPlaceOf (b : BenchView) (s : SeatView Entry BaseView) : Type 0 where
  pub at : IsAt b.door s
  pub legal : IsLegal b.door.base.case b.door.base.budget s.seen

-- the pass is of this bench, and what it has seen is legal
pub record IsPassOf (b : BenchView) (p : PassView) : Type 0 where
  pub table : p.table ≡ b.door.table
  pub base : p.base ≡ Some b.door.base
  pub fits : p.commands ≡ slice_index b.door.base.lengths p.viewer
  pub legal : IsLegal b.door.base.case b.door.base.budget p.seen

-- the same of a worker's pass, whose hand is one of the crew
pub record IsWorkerOf (b : BenchView) (w : WorkerView) : Type 0 where
  pub table : w.table ≡ b.door.table
  pub base : w.base ≡ Some b.door.base
  pub of : w.of ≡ b.hands
  pub hand : w.hand < b.hands
  pub legal : IsLegal b.door.base.case b.door.base.budget w.seen

-- how many commands of its script the viewer has left
abbrev pub left_of : PassView → ℕ
left_of p = p.commands - length (commands_of p.viewer p.seen)

-- what the type of a viewer's pass keeps: its seat is the viewer's, and it counts the viewer's entries, of which there are no more than
-- commands
pub record IsPass (s : SeatView Entry BaseView) (viewer commands made : ℕ) : Type 0 where
  pub number : s.number ≡ viewer
  pub counted : made ≡ length (commands_of viewer s.seen)
  pub within : made ≤ commands
