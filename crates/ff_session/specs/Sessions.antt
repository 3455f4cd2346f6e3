-- Sessions: the journal of a workbench that bytes ask for. This project's own.
use Rattle.std.specs.Prelude.{◌≡◌, ℕ, ◌⊎◌, Bool, List, Option, length}
use Rattle.ff_tables.specs.declared.orders.Order.{Order}
use Rattle.ff_types.specs.declared.pins.Pin.{Pin}
use Rattle.ff_types.specs.declared.faces.Faces.{Faces}
use Rattle.ff_types.specs.declared.faces.Folded.{Folded}
use Rattle.ff_types.specs.declared.cases.Case.{Case}
use Rattle.ff_types.specs.declared.refusals.Refusal.{Refusal}
use Rattle.ff_types.specs.declared.refusals.No.{No}
use Rattle.ff_types.specs.declared.refusals.No.TheVariants as no
use Rattle.ff_types.specs.Sheets.{Sheet, sheet_of}
use Rattle.ff_propagate.specs.Closure.{IsClosure, Gives}
use Rattle.ff_propagate.specs.Parts.{AreParts}
use Rattle.ff_log.specs.declared.logs.Log.{Log}
use Rattle.ff_problem.specs.Problems.{IsProblem, RefusesProblem}
use Rattle.ff_solve.specs.Choices.{AreStackings}
use Rattle.ff_read.specs.declared.benches.BenchInput.{BenchInput}
use Rattle.ff_read.specs.Benches.{IsBench, RefusesSession}
use Rattle.ff_journal.specs.declared.entries.Entry.{Entry}
use Rattle.ff_journal.specs.declared.entries.Outcome.TheVariants as outcome
use Rattle.ff_journal.specs.Epochs.{pins_of, givens_of}
use Rattle.ff_journal.specs.Publications.{on_board}
use Rattle.ff_journal.specs.Journals.{IsLegalFor, IsComplete}
use Rattle.ff_epochs.specs.EpochLaws.{IsPublishedAt, HasNone}

-- What a session shows of a sheet and its case: the journal is legal for the scripts and complete; each published board is exactly the
-- closure of its epoch's creases and pins, and choices of one solution of each of its parts correspond one-to-one to the geometric stackings
-- that keep them; an impossible epoch has no such stacking, and an accepted log.
pub record IsJournalOf (g : Sheet) (case : Case) (budget : ℕ) (input : BenchInput) (journal : List Entry) : Type 0 where
  pub legal : IsLegalFor case budget input.scripts journal
  pub complete : IsComplete input.scripts journal
  pub closures : (i e : ℕ) (board : List (Option Order)) → IsPublishedAt journal i e (outcome.Board board)
      → (length board ≡ case.system.vars)
      × IsClosure case.system.constraints (Gives (givens_of case journal e)) (on_board board)
  pub stackings : (i e : ℕ) (board : List (Option Order)) → IsPublishedAt journal i e (outcome.Board board)
      → (parts : List (List ℕ)) → AreParts case.system.vars case.system.constraints (on_board board) parts
      → AreStackings g (pins_of case journal e) case (on_board board) parts
  pub none : (i e : ℕ) (pins : List Pin) (log : Log) → IsPublishedAt journal i e (outcome.Impossible pins log)
      → HasNone g case journal e pins log

-- the bytes spell an input whose pattern comes to a case, of which this is the journal
pub record IsSession (bytes : List ℕ) (budget : ℕ) (journal : List Entry) : Type 0 where
  pub input : BenchInput
  pub read : IsBench bytes input
  pub faces : Faces
  pub folded : Folded
  pub case : Case
  pub problem : IsProblem input.pattern faces folded case
  pub is : IsJournalOf (sheet_of input.pattern faces folded) case budget input journal

-- the bytes spell no input, or one whose pattern is refused
abbrev pub RefusesBytes : List ℕ → Refusal → Type 0
RefusesBytes bytes r = RefusesSession bytes r ⊎ ((input : BenchInput) × IsBench bytes input × RefusesProblem input.pattern r)

-- why there is no session: a refusal, or no memory
abbrev pub WhyNoSession : List ℕ → No → Type 0
WhyNoSession bytes (no.Refused r) = RefusesBytes bytes r
WhyNoSession bytes no.NoMemory = Unit {0}
