-- Publications: the closure of an epoch's givens, or that it is impossible. This project's own.
use Rattle.std.specs.Prelude.{◌≡◌, ℕ, ◌+◌, List, length, slice_get, Option, Some, None}
use Rattle.std.specs.List.{filter_map}
use Rattle.ff_tables.specs.declared.orders.Order.{Order}
use Rattle.ff_types.specs.declared.cases.Case.{Case}
use Rattle.ff_propagate.specs.Closure.{IsClosure, Clashes, Gives}
use Rattle.ff_log.specs.Grounds.{IsAcceptedIn}
use Rattle.ff_journal.specs.declared.entries.Entry.{Entry}
use Rattle.ff_journal.specs.declared.entries.Entry.TheVariants as entry
use Rattle.ff_journal.specs.declared.entries.Outcome.{Outcome}
use Rattle.ff_journal.specs.declared.entries.Outcome.TheVariants as outcome
use Rattle.ff_journal.specs.Epochs.{joined, last_of, pins_of, givens_of}

-- the outcome of a publication
abbrev pub outcome_in : Entry → Option Outcome
outcome_in (entry.Published e outcome) = Some outcome
outcome_in (entry.Said viewer index said told) = None

-- the outcomes that were published, epoch by epoch
abbrev pub outcomes : List Entry → List Outcome
outcomes journal = filter_map outcome_in journal

-- how many epochs are published
abbrev pub published : List Entry → ℕ
published journal = length (outcomes journal)

-- the last published epoch and its outcome
pub record IsLast (journal : List Entry) (e : ℕ) (last : Outcome) : Type 0 where
  pub counted : published journal ≡ e + 1
  pub is : last_of (outcomes journal) ≡ Some last

-- the value that a board has of a variable
abbrev pub on_board : List (Option Order) → ℕ → Option Order
on_board board n = joined (slice_get board n)

-- A publication of epoch e is the closure of its givens where that doesn't clash. Else it is Impossible, with the epoch's
-- pins and a log accepted for them.
abbrev pub IsOutcome : Case → List Entry → ℕ → Outcome → Type 0
IsOutcome case before e (outcome.Board board) = (length board ≡ case.system.vars)
    × IsClosure case.system.constraints (Gives (givens_of case before e)) (on_board board)
IsOutcome case before e (outcome.Impossible pins log) = Clashes case.system.constraints (Gives (givens_of case before e))
    × (pins ≡ pins_of case before e) × IsAcceptedIn case (pins_of case before e) log.lines
