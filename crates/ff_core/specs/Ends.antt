-- What the facts of an epoch come to. This project's own.
-- For the proofs of this crate alone.
use Rattle.std.specs.Prelude.{◌≡◌, ◌≢◌, ℕ, List, slice_get, Option, Some, None}
use Rattle.ff_tables.specs.declared.givens.Given.{Given}
use Rattle.ff_types.specs.declared.cases.Case.{Case}
use Rattle.ff_propagate.specs.declared.facts.Fact.{Fact}
use Rattle.ff_propagate.specs.declared.facts.Reason.TheVariants as reason
use Rattle.ff_propagate.specs.Facts.{value_at}
use Rattle.ff_journal.specs.declared.entries.Entry.{Entry}
use Rattle.ff_journal.specs.declared.entries.Outcome.{Outcome}
use Rattle.ff_journal.specs.declared.entries.Outcome.TheVariants as outcome
use Rattle.ff_journal.specs.Epochs.{givens_of}
use Rattle.ff_journal.specs.Publications.{IsOutcome}
use Rattle.ff_journal.specs.Shown.{AreOfBoard}
use Rattle.ff_core.specs.declared.refuting.Ended.{Ended}
use Rattle.ff_core.specs.declared.refuting.Ended.TheVariants as ended
use Rattle.ff_core.specs.Steps.{IsNotClosed, IsNotClosedAny}

-- the fact of the i-th given's variable has its value
abbrev pub IsMet : List Given → List (Option Fact) → ℕ → Type 0
IsMet gs fs i = (g : Given) → slice_get gs i ≡ Some g → value_at fs g.var ≡ Some g.value

-- the fact has another value than the given, by the given with this number
abbrev pub IsContradicted : Given → Fact → Option ℕ → Type 0
IsContradicted g h (Some first) = (h.reason ≡ reason.Given first) × (h.value ≢ g.value)
IsContradicted g h None = (i : ℕ) → h.reason ≡ reason.Given i → h.value ≡ g.value

-- the outcome is a right refutation
abbrev pub IsRefuted : Case → List Entry → ℕ → Outcome → Type 0
IsRefuted case journal e (outcome.Board board) = ⊥
IsRefuted case journal e (outcome.Impossible pins log) = IsOutcome case journal e (outcome.Impossible pins log)

-- what the facts of epoch e come to
abbrev pub ComesTo : Case → List Entry → ℕ → List (Option Fact) → Ended → Type 0
ComesTo case journal e fs (ended.More c) = IsNotClosed case.system.constraints (givens_of case journal e) fs c
ComesTo case journal e fs (ended.With o) = (IsNotClosedAny case.system.constraints (givens_of case journal e) fs → ⊥)
    × IsOutcome case journal e o × AreOfBoard o fs
