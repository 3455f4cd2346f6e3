-- What the published epochs of a legal journal say of stackings. This project's own.
use Rattle.std.specs.Prelude.{◌≡◌, ℕ, Bool, List, length, slice_get, Option, Some}
use Rattle.ff_tables.specs.declared.orders.Order.{Order}
use Rattle.ff_types.specs.declared.cases.Case.{Case}
use Rattle.ff_types.specs.declared.pins.Pin.{Pin}
use Rattle.ff_types.specs.Sheets.{Sheet}
use Rattle.ff_types.specs.Cases.{IsCaseOf}
use Rattle.ff_types.specs.Assignments.{IsTrueTo}
use Rattle.ff_propagate.specs.Closure.{IsClosure, Gives}
use Rattle.ff_propagate.specs.Parts.{AreParts}
use Rattle.ff_log.specs.declared.logs.Log.{Log}
use Rattle.ff_log.specs.Grounds.{IsAcceptedIn}
use Rattle.ff_solve.specs.Choices.{IsKept, AreStackings}
use Rattle.ff_journal.specs.declared.entries.Entry.{Entry}
use Rattle.ff_journal.specs.declared.entries.Entry.TheVariants as entry
use Rattle.ff_journal.specs.declared.entries.Outcome.{Outcome}
use Rattle.ff_journal.specs.declared.entries.Outcome.TheVariants as outcome
use Rattle.ff_journal.specs.Epochs.{pins_of, givens_of}
use Rattle.ff_journal.specs.Publications.{on_board}
use Rattle.ff_journal.specs.Journals.{IsLegal}

-- the i-th entry publishes epoch e with this outcome
abbrev pub IsPublishedAt : List Entry → ℕ → ℕ → Outcome → Type 0
IsPublishedAt journal i e o = slice_get journal i ≡ Some (entry.Published e o)

-- Each published board is exactly the closure of its epoch's creases and pins.
abbrev pub BoardsAreClosures : Type 0
BoardsAreClosures = (case : Case) (budget : ℕ) (journal : List Entry) → IsLegal case budget journal
    → (i e : ℕ) (board : List (Option Order)) → IsPublishedAt journal i e (outcome.Board board)
    → (length board ≡ case.system.vars)
    × IsClosure case.system.constraints (Gives (givens_of case journal e)) (on_board board)

-- For the case of a sheet, choices of one solution of each part of a published board correspond one-to-one to the geometric stackings
-- that keep the creases and the pins in force of its epoch.
abbrev pub BoardsAreStackings : Type 0
BoardsAreStackings = (g : Sheet) (case : Case) → IsCaseOf g case → IsTrueTo g case
    → (budget : ℕ) (journal : List Entry) → IsLegal case budget journal
    → (i e : ℕ) (board : List (Option Order)) → IsPublishedAt journal i e (outcome.Board board)
    → (parts : List (List ℕ)) → AreParts case.system.vars case.system.constraints (on_board board) parts
    → AreStackings g (pins_of case journal e) case (on_board board) parts

-- an impossible epoch has its pins in force, a log that is accepted for them, and no stacking that keeps them
pub record HasNone (g : Sheet) (case : Case) (journal : List Entry) (e : ℕ) (pins : List Pin) (log : Log) : Type 0 where
  pub its : pins ≡ pins_of case journal e
  pub accepted : IsAcceptedIn case pins log.lines
  pub none : (above : ℕ → ℕ → Bool) → IsKept g pins above → ⊥

-- Where an epoch is published as impossible, no geometric stacking keeps the creases and its pins.
abbrev pub ImpossibleEpochsHaveNone : Type 0
ImpossibleEpochsHaveNone = (g : Sheet) (case : Case) → IsCaseOf g case → IsTrueTo g case
    → (budget : ℕ) (journal : List Entry) → IsLegal case budget journal
    → (i e : ℕ) (pins : List Pin) (log : Log) → IsPublishedAt journal i e (outcome.Impossible pins log)
    → HasNone g case journal e pins log
