-- What turns and entries tell. This project's own.
use Rattle.std.specs.Prelude.{◌≡◌, ℕ, ◌+◌, ◌<◌, ◌≤◌, ◌⊎◌, List, [], ◌∷◌, ◌++◌, length, Option, Some, None, Result, Ok, Err}
use Rattle.ff_tables.specs.declared.memory.NoMemory.{NoMemory}
use Rattle.ff_viewer.specs.declared.commands.Command.{Command}
use Rattle.ff_viewer.specs.declared.replies.Reply.{Reply}
use Rattle.ff_journal.specs.declared.entries.Entry.{Entry}
use Rattle.ff_journal.specs.declared.entries.Entry.TheVariants as entry
use Rattle.ff_journal.specs.Epochs.{viewer_in, last_begun}
use Rattle.ff_journal.specs.Publications.{published}
use Rattle.ff_journal.specs.Journals.{commands_of}
use Rattle.ff_door.specs.Entries.{Follows}
use Rattle.ff_door.specs.Views.{SeatView}
use Rattle.ff_desk.specs.declared.loans.Lent.{Lent}
use Rattle.ff_desk.specs.declared.loans.Lent.TheVariants as lent
use Rattle.ff_desk.specs.declared.loans.Turn.{Turn}
use Rattle.ff_desk.specs.declared.loans.Turn.TheVariants as turn
use Rattle.ff_desk.specs.Views.{BaseView, DeskView}
use Rattle.ff_bench.specs.Views.{PassView, WorkerView}
use Rattle.ff_desk.specs.Demands.{IsDemanded}
use Rattle.ff_desk.specs.Desks.{IsDesk, IsOpeningOf}
use Rattle.ff_desk.specs.Steps.{AllPublished, PublishesOne, NoneOpen, IsLeastOpen, turns_of}

-- the seat stays the one that it is, has had more turns and has seen all that it had seen, and past that no entry names it
pub record HasGone (old new : SeatView Entry BaseView) : Type 0 where
  pub number : new.number ≡ old.number
  pub turns : old.turns < new.turns
  pub seen : Follows viewer_in old.number old.seen new.seen

-- the same, where there may have been no turn
pub record HasStayed (old new : SeatView Entry BaseView) : Type 0 where
  pub number : new.number ≡ old.number
  pub turns : old.turns ≤ new.turns
  pub seen : Follows viewer_in old.number old.seen new.seen

-- the value that was got at the first turn, of this base and journal, by a seat that had seen `old`
pub record IsGot (base : BaseView) (number : ℕ) (old : List Entry) (first : DeskView) : Type 0 where
  pub is_desk : IsDesk first
  pub based : first.base ≡ base
  pub after : Follows viewer_in number old first.journal

-- every epoch begun is published, and no demanded part is open
abbrev pub IsIdle : DeskView → Type 0
IsIdle d = AllPublished d.journal × NoneOpen d

-- what the search of a value in which all is published comes to
abbrev pub SearchTells : DeskView → Turn → Type 0
SearchTells d turn.Idle = NoneOpen d
SearchTells d turn.Did = (p : ℕ) × IsLeastOpen d p

-- what was done with the value that was got, and the journal then
abbrev pub LentTells : BaseView → DeskView → List Entry → Lent → Type 0
LentTells base first new (lent.Searched t) = AllPublished first.journal × (new ≡ first.journal) × SearchTells first t
LentTells base first new lent.Published = (published first.journal ≤ last_begun first.journal) × PublishesOne first.journal new
LentTells base first new (lent.Board loan) = (published first.journal ≤ last_begun first.journal) × (new ≡ first.journal)
    × (loan.epoch ≡ published first.journal) × IsOpeningOf base.case first.journal loan.epoch loan.board.opening

-- a seat got the value behind the door, and what it took tells of it
abbrev pub Took : BaseView → ℕ → List Entry → List Entry → Lent → Type 0
Took base number old new l = (first : DeskView) × IsGot base number old first × LentTells base first new l

-- there is a part that an entry after the last publication demands: of `page`, or of `stack`
abbrev pub PagesAsked : List Entry → Type 0
PagesAsked journal = (p : ℕ) × IsDemanded journal p

-- a publication more was seen, or a part is demanded; and where an epoch was begun and unpublished, the least such is published
pub record HasDone (old new : List Entry) : Type 0 where
  pub more : (published old < published new) ⊎ PagesAsked new
  pub least : published old ≤ last_begun old → published old < published new

-- Idle exactly where in the value got first every epoch begun is published and no demanded part is open; it is then all that was seen.
abbrev pub TurnTells : DeskView → List Entry → List Entry → Turn → Type 0
TurnTells first old new turn.Idle = IsIdle first × (new ≡ first.journal)
TurnTells first old new turn.Did = (IsIdle first → ⊥) × HasDone old new

-- what a worker's turn answers
abbrev pub TurnIs : BaseView → ℕ → List Entry → List Entry → Turn → Type 0
TurnIs base number old new t = (first : DeskView) × IsGot base number old first × TurnTells first old new t

-- So many turns all searches had visited in the value that was got; its journal is then all that was seen.
abbrev pub TellsTurns : BaseView → ℕ → List Entry → List Entry → ℕ → Type 0
TellsTurns base number old new n = (first : DeskView) × IsGot base number old first × (new ≡ first.journal) × (n ≡ turns_of first)

-- ---- viewers

-- the viewer's next entry
abbrev pub next_entry : List Entry → ℕ → Command → Reply → Entry
next_entry before v said told = entry.Said v (length (commands_of v before)) said told

-- what was seen ends with the viewer's entry of this command and reply, and holds no other of it that it hadn't seen
abbrev pub EndsWith : ℕ → Command → List Entry → List Entry → Reply → Type 0
EndsWith v said old new told = (log : List Entry) × Follows viewer_in v old log × (new ≡ log ++ next_entry log v said told ∷ [])

-- what trying to make an entry tells
abbrev pub ActIs : ℕ → Command → List Entry → List Entry → Option (Result Reply NoMemory) → Type 0
ActIs v said old new None = Follows viewer_in v old new
ActIs v said old new (Some (Ok told)) = EndsWith v said old new told
ActIs v said old new (Some (Err e)) = Follows viewer_in v old new

-- the pass is of the same viewer
pub record IsSamePass (old new : PassView) : Type 0 where
  pub viewer : new.viewer ≡ old.viewer
  pub commands : new.commands ≡ old.commands

-- the pass is of the same worker, with its hand
pub record IsSameWorker (old new : WorkerView) : Type 0 where
  pub number : new.number ≡ old.number
  pub hand : new.hand ≡ old.hand
